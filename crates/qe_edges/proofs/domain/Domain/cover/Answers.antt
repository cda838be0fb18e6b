use Rattle.std.proofs.Common.{◌≡◌, ◌+◌, ◌<ℤ◌, ◌≤ℤ◌, rules, arith}
use Rattle.std.specs.Int.{int_max, int_min}
use Rattle.std.proofs.lemmas.Result.{IfOk-weaker}
use Rattle.qe_edges.specs.Rules.{offset_of}
use Rattle.qe_edges.specs.Prefixes.{Lists, InInterval, IsCoverPrefix}
use Rattle.qe_edges.specs.Walk.{Between}
use Rattle.qe_edges.proofs.OffsetLemmas.{interval_between, interval_empty}
use Rattle.qe_edges.proofs.CoverLemmas.{lists_same, lists_none}
use Rattle.qe_edges.proofs.TreeLemmas.{exact_cover, exact_if_ok}
use Rattle.qe_edges.proofs.domain.Domain.cover.Goals as goal

pub returns-then-lo-hi-clause-members : goal.returns-then-lo-hi-clause-members
returns-then-lo-hi-clause-members c =
    let rules' = c.args.self.now in
    let first_is : c.max-lo.result ≡ int_max c.args.lo rules'.min = search rules in
    let last_is : c.min-hi.result ≡ int_min c.args.hi rules'.max = search rules in
    let none : c.min-hi.result <ℤ c.max-lo.result = search rules in
    rw c.new.ensures (lists_none rules' (InInterval rules' c.args.lo c.args.hi)
    (λ x. interval_empty rules' c.args.lo c.args.hi c.max-lo.result c.min-hi.result x first_is last_is none))

pub returns-clause-members : goal.returns-clause-members
returns-clause-members c =
    let rules' = c.args.self.now in
    let first_is : c.max-lo.result ≡ int_max c.args.lo rules'.min = search rules in
    let last_is : c.min-hi.result ≡ int_min c.args.hi rules'.max = search rules in
    let some : c.max-lo.result ≤ℤ c.min-hi.result = search rules in
    let start : c.offset.result ≡ offset_of rules' c.max-lo.result = search rules in
    let end : c.offset-2.result ≡ offset_of rules' c.min-hi.result = search rules in
    let set = InInterval rules' c.args.lo c.args.hi in
    let same = λ (x : _). interval_between rules' c.args.lo c.args.hi c.max-lo.result c.min-hi.result x first_is last_is some in
    let numbers = Between c.offset.result (c.offset-2.result + 1) in
    IfOk-weaker c.walk.result (Lists (IsCoverPrefix rules' numbers)) (Lists (IsCoverPrefix rules' set))
    (λ items listed. lists_same rules' numbers set (rw (start, end) same) items listed) c.walk.ensures.members

pub returns-then-lo-hi-clause-exact : goal.returns-then-lo-hi-clause-exact
returns-then-lo-hi-clause-exact c = exact_cover c.args.self.now c.args.lo c.args.hi c.new.result
    (returns-then-lo-hi-clause-members c) (rw c.new.ensures (λ i j d less within. absurd (omega (arith, within))))

pub returns-clause-exact : goal.returns-clause-exact
returns-clause-exact c =
    exact_if_ok c.args.self.now c.args.lo c.args.hi c.walk.result (returns-clause-members c) c.walk.ensures.order
