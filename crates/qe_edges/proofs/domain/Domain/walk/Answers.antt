use Rattle.std.proofs.Common.{◌≡◌, ◌-◌, ◌*◌, ◌%◌, ◌^◌, length, ap, ◌∙◌, arith}
use Rattle.std.proofs.lemmas.Nat.{one_shl}
use Rattle.std.proofs.lemmas.List.{length_push}
use Rattle.qe_edges.proofs.BlockLemmas.{size_at}
use Rattle.qe_edges.proofs.WalkLemmas.{walk_starts, walk_ends, walk_spells}
use Rattle.qe_edges.proofs.StepLemmas.{walk_goes_on}
use Rattle.qe_edges.proofs.TallyLemmas.{counted_at_start, counted_at_end, counted_on}
use Rattle.qe_edges.proofs.domain.Domain.walk.Goals as goal

pub loop-at-init : goal.loop-at-init
loop-at-init c = rw c.new-cover.ensures (
  walk_starts c.args.self.now c.args.first c.args.end c.requires,
  counted_at_start c.args.self.now c.args.first c.args.end c.bits-bits.ensures.domain,
)

pub loop-at-preserved : goal.loop-at-preserved
loop-at-preserved c =
    let rules = c.args.self.now in
    let edge = c.widest_at-edge.result in
    let goes_on = walk_goes_on rules c.args.first c.args.end c.loop-at.at c.loop-at.cover edge c.requires
    (omega arith) c.loop-at.invariant.0 c.widest_at-edge.ensures in
    let size : 1 * 2 ^ (c.bits-bits.result - edge.len) % 2 ^ 128 ≡ size_at rules edge.len =
    one_shl (c.bits-bits.result - edge.len) 128 (omega arith) ∙ ap (λ bits. 2 ^ (bits - edge.len)) c.bits-bits.ensures.value
    in
    let counted = counted_on rules c.bits-bits.ensures.domain c.loop-at.at c.args.end edge c.requires
    c.widest_at-edge.ensures (length c.loop-at.cover) c.loop-at.invariant.1 in
    rw (c.in_ok-push.ensures.ok, size) (goes_on, rw length_push counted)

pub returns-clause-members : goal.returns-clause-members
returns-clause-members c = walk_ends c.args.self.now c.args.first c.args.end c.loop-at.at c.loop-at.cover
    c.loop-at.invariant.0 (omega arith)

pub returns-clause-count : goal.returns-clause-count
returns-clause-count c = counted_at_end c.args.self.now c.loop-at.at c.args.end (length c.loop-at.cover) c.loop-at.invariant.1

pub returns-clause-spelled : goal.returns-clause-spelled
returns-clause-spelled c = walk_spells c.args.self.now c.args.first c.args.end c.loop-at.at c.loop-at.cover c.loop-at.invariant.0
