use Rattle.std.proofs.Common.{◌≡◌}
use Rattle.qe_aes.specs.CounterMode.{key_stream}
use Rattle.qe_aes.proofs.XorLemmas.{xored_front}
use Rattle.qe_aes.proofs.block_cipher.Aes256.ctr.Given as goal

abbrev pub invariant-loop-i : goal.invariant-loop-i
invariant-loop-i l = l.bytes ≡ xored_front l.fn.bytes (key_stream l.self l.iv l.i)
