use Rattle.std.proofs.Common.{map, ap, ◌∙◌}
use Rattle.qe_aes.specs.Field.{inv_sub_byte}
use Rattle.qe_aes.specs.Words.{word_bytes, state_bytes}
use Rattle.qe_aes.proofs.WordLemmas.{state_bytes-columns}
use Rattle.qe_aes.proofs.state.State.inv_shift_sub.Goals as goal

pub returns : goal.returns
unfolding word_bytes state_bytes
returns c =
    state_bytes-columns _ _ _ _ _ _ _ _
    (c.inv_sub.ensures ∙ ap (map inv_sub_byte) c.diagonal.ensures)
    (c.inv_sub-2.ensures ∙ ap (map inv_sub_byte) c.diagonal-2.ensures)
    (c.inv_sub-3.ensures ∙ ap (map inv_sub_byte) c.diagonal-3.ensures)
    (c.inv_sub-4.ensures ∙ ap (map inv_sub_byte) c.diagonal-4.ensures)
