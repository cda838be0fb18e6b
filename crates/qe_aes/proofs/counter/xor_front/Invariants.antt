use Rattle.std.proofs.Common.{◌≡◌, ◌++◌, take, drop}
use Rattle.qe_aes.proofs.XorLemmas.{xored_front}
use Rattle.qe_aes.proofs.counter.xor_front.Given as goal

abbrev pub invariant-loop-i : goal.invariant-loop-i
invariant-loop-i l = take l.i l.bytes ++ xored_front (drop l.i l.bytes) (drop l.i l.other) ≡ xored_front l.fn.bytes l.other
