use Rattle.std.proofs.Common.{◌≡◌, ◌-◌, ap, sym, ◌∙◌, arith}
use Rattle.qe_aes.specs.Steps.{inv_sub_bytes, inv_shift_rows, add_round_key}
use Rattle.qe_aes.specs.Cipher.{inv_rounds, inv_cipher}
use Rattle.qe_aes.specs.Words.{words_of, state_bytes}
use Rattle.qe_aes.proofs.RoundLemmas.{inv_rounds-next}
use Rattle.qe_aes.proofs.rounds.inv_cipher.Goals as goal

pub loop-n-init : goal.loop-n-init
loop-n-init c =
    ap (inv_rounds (words_of c.args.words.now) 13)
    (c.add_round_key-state.ensures ∙ ap (add_round_key (words_of c.args.words.now) 14) c.load.ensures)

pub loop-n-preserved : goal.loop-n-preserved
loop-n-preserved c =
    ap (inv_rounds (words_of c.args.words.now) (c.loop-n.n - 1 - 1)) c.inv_round-next.ensures
    ∙ inv_rounds-next (words_of c.args.words.now) (c.loop-n.n - 1 - 1) (c.loop-n.n - 1) (state_bytes c.loop-n.state) (omega arith)
    ∙ c.loop-n.invariant

pub returns : goal.returns
unfolding inv_rounds inv_cipher
returns c =
    let done : c.loop-n.n - 1 ≡ 0 = omega arith in
    c.store.ensures ∙ c.add_round_key.ensures
    ∙ ap (add_round_key (words_of c.args.words.now) 0) (c.inv_shift_sub.ensures
    ∙ ap (λ s. inv_sub_bytes (inv_shift_rows s))
    (sym (ap (λ k. inv_rounds (words_of c.args.words.now) k (state_bytes c.loop-n.state)) done) ∙ c.loop-n.invariant))
