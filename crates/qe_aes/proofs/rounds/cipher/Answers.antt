use Rattle.std.proofs.Common.{◌≡◌, ◌-◌, ap, ◌∙◌, arith}
use Rattle.qe_aes.specs.Steps.{sub_bytes, shift_rows, add_round_key}
use Rattle.qe_aes.specs.Cipher.{round, rounds, cipher}
use Rattle.qe_aes.specs.Words.{words_of}
use Rattle.qe_aes.proofs.RoundLemmas.{rounds-next}
use Rattle.qe_aes.proofs.rounds.cipher.Goals as goal

pub loop-n-init : goal.loop-n-init
unfolding rounds
loop-n-init c =
    c.round-state.ensures
    ∙ ap (round (words_of c.args.words.now) 1) (c.add_round_key-start.ensures ∙ ap (add_round_key (words_of c.args.words.now) 0) c.load.ensures)

pub loop-n-preserved : goal.loop-n-preserved
loop-n-preserved c =
    c.round-next.ensures ∙ ap (round (words_of c.args.words.now) c.loop-n.n) c.loop-n.invariant
    ∙ rounds-next (words_of c.args.words.now) (c.loop-n.n - 1) c.loop-n.n c.args.block (omega arith)
    ∙ ap (λ k. rounds (words_of c.args.words.now) k c.args.block) (omega arith)

pub returns : goal.returns
unfolding cipher
returns c =
    let last : c.loop-n.n - 1 ≡ 13 = omega arith in
    c.store.ensures ∙ c.add_round_key.ensures
    ∙ ap (add_round_key (words_of c.args.words.now) 14) (c.sub_shift.ensures
    ∙ ap (λ s. shift_rows (sub_bytes s)) (c.loop-n.invariant ∙ ap (λ k. rounds (words_of c.args.words.now) k c.args.block) last))
