use Rattle.std.proofs.Common.{ap, ◌∙◌}
use Rattle.qe_aes.specs.Steps.{add_round_key, inv_mix_columns}
use Rattle.qe_aes.specs.Cipher.{inv_round}
use Rattle.qe_aes.specs.Words.{words_of}
use Rattle.qe_aes.proofs.state.State.inv_round.Goals as goal

pub returns : goal.returns
unfolding inv_round
returns c =
    c.inv_mix.ensures ∙ ap inv_mix_columns c.add_round_key.ensures
    ∙ ap (λ s. inv_mix_columns (add_round_key (words_of c.args.words.now) c.args.n s)) c.inv_shift_sub.ensures
