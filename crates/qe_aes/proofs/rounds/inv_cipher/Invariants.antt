use Rattle.std.proofs.Common.{◌≡◌, ◌-◌}
use Rattle.qe_aes.specs.Cipher.{inv_rounds}
use Rattle.qe_aes.specs.Steps.{add_round_key}
use Rattle.qe_aes.specs.Words.{words_of, state_bytes}
use Rattle.qe_aes.proofs.rounds.inv_cipher.Given as goal

abbrev pub invariant-loop-n : goal.invariant-loop-n
invariant-loop-n l =
    inv_rounds (words_of l.words) (l.n - 1) (state_bytes l.state)
    ≡ inv_rounds (words_of l.words) 13 (add_round_key (words_of l.words) 14 l.fn.block)
