use Rattle.std.proofs.Common.{◌≡◌, ◌-◌}
use Rattle.qe_aes.specs.Cipher.{rounds}
use Rattle.qe_aes.specs.Words.{words_of, state_bytes}
use Rattle.qe_aes.proofs.rounds.cipher.Given as goal

abbrev pub invariant-loop-n : goal.invariant-loop-n
invariant-loop-n l = state_bytes l.state ≡ rounds (words_of l.words) (l.n - 1) l.fn.block
