use Rattle.std.proofs.Common.{List, ℕ, map, ap, ◌∙◌}
use Rattle.qe_aes.specs.Field.{sub_byte}
use Rattle.qe_aes.specs.Steps.{mix_factors}
use Rattle.qe_aes.specs.Words.{word_bytes, state_bytes, mixed_column}
use Rattle.qe_aes.proofs.WordLemmas.{state_bytes-columns}
use Rattle.qe_aes.proofs.state.State.sub_shift_mix.Goals as goal

abbrev sub_mixed : List ℕ → List ℕ
sub_mixed column = mixed_column mix_factors (map sub_byte column)

pub returns : goal.returns
unfolding word_bytes state_bytes
returns c =
    state_bytes-columns _ _ _ _ _ _ _ _
    (c.sub_mix.ensures ∙ ap sub_mixed c.diagonal.ensures)
    (c.sub_mix-2.ensures ∙ ap sub_mixed c.diagonal-2.ensures)
    (c.sub_mix-3.ensures ∙ ap sub_mixed c.diagonal-3.ensures)
    (c.sub_mix-4.ensures ∙ ap sub_mixed c.diagonal-4.ensures)
