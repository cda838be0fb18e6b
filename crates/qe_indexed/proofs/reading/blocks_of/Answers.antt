use Rattle.std.proofs.Common.{arith, rules}
use Rattle.qe_indexed.proofs.JoinLemmas.{joined-nil, blocks-next}
use Rattle.qe_indexed.proofs.reading.blocks_of.Goals as goal

pub loop-i-init : goal.loop-i-init
loop-i-init c = rw c.new-blocks.ensures (λ k d lt. absurd (omega arith), joined-nil)

pub loop-i-preserved : goal.loop-i-preserved
loop-i-preserved c =
    rw c.in_ok-push.ensures.ok
    (blocks-next c.loop-i.blocks c.args.bytes.now c.array_at.result c.loop-i.i (omega (arith, c.requires, c.loop-i-test.true)) c.loop-i.invariant.0 c.loop-i.invariant.1
    c.array_at.ensures (search rules))
