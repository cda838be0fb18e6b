use Rattle.std.proofs.Common.{◌≡◌, rules}
use Rattle.qe_edges.specs.Rules.{offset_of}
use Rattle.qe_edges.proofs.EdgeLemmas.{none_listed, all_listed, few_listed, next_listed, all_spelled}
use Rattle.qe_edges.proofs.StoredLemmas.{exact_edges}
use Rattle.qe_edges.proofs.domain.Domain.edges.Goals as goal

pub loop-level-init : goal.loop-level-init
loop-level-init c = rw c.new-edges.ensures (none_listed c.args.self.now c.offset-number.result)

pub loop-level-preserved : goal.loop-level-preserved
loop-level-preserved c =
    let number = c.offset-number.result in
    let next = next_listed c.args.self.now number c.loop-level.level c.level_from-len.result c.loop-level.edges
    c.loop-level.invariant c.level_from-len.ensures in
    rw (c.in_ok-push.ensures.ok, c.bits-bits.ensures.value) next

pub returns-clause-members : goal.returns-clause-members
returns-clause-members c =
    let listed = all_listed c.args.self.now c.offset-number.result c.loop-level.level c.loop-level.edges
    c.loop-level.invariant (rw c.bits-bits.ensures.value at c.loop-level-test.false) in
    let is : c.offset-number.result ≡ offset_of c.args.self.now c.args.v = search rules in
    rw is at listed

pub returns-clause-count : goal.returns-clause-count
returns-clause-count c = few_listed c.args.self.now c.offset-number.result c.loop-level.level c.loop-level.edges c.loop-level.invariant

pub returns-clause-spelled : goal.returns-clause-spelled
returns-clause-spelled c = all_spelled c.args.self.now c.offset-number.result c.loop-level.level c.loop-level.edges
    c.loop-level.invariant c.offset-number.ensures.within

pub returns-clause-exact : goal.returns-clause-exact
returns-clause-exact c = exact_edges c.args.self.now c.args.v c.loop-level.edges (returns-clause-members c) c.loop-level.invariant.order
