use Rattle.std.proofs.Common.{sym, ◌∙◌, arith, add-one}
use Rattle.qe_aes.proofs.XorLemmas.{xored_front-next, xored_front-end}
use Rattle.qe_aes.proofs.counter.xor_front.Goals as goal

pub loop-i-preserved : goal.loop-i-preserved
loop-i-preserved c =
    rw (add-one c.loop-i.i) (xored_front-next c.loop-i.bytes c.args.other.now c.loop-i.i (omega arith) (omega arith) ∙ c.loop-i.invariant)

pub returns : goal.returns
returns c = sym (xored_front-end c.loop-i.bytes c.args.other.now c.loop-i.i (omega arith)) ∙ c.loop-i.invariant
