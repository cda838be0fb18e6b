use Rattle.std.proofs.Common.{ap, ◌∙◌}
use Rattle.qe_aes.specs.Steps.{add_round_key}
use Rattle.qe_aes.specs.Cipher.{round}
use Rattle.qe_aes.specs.Words.{words_of}
use Rattle.qe_aes.proofs.state.State.round.Goals as goal

pub returns : goal.returns
unfolding round
returns c = c.add_round_key.ensures ∙ ap (add_round_key (words_of c.args.words.now) c.args.n) c.sub_shift_mix.ensures
