use Rattle.std.proofs.Common.{ap, ◌∙◌}
use Rattle.qe_aes.specs.Steps.{inv_mix_factors}
use Rattle.qe_aes.specs.Words.{word_bytes, mixed_column}
use Rattle.qe_aes.proofs.WordLemmas.{word_bytes-mixed}
use Rattle.qe_aes.proofs.columns.inv_mix.Goals as goal

pub returns : goal.returns
unfolding word_bytes
returns c =
    word_bytes-mixed inv_mix_factors c.to_be_bytes.result _ _ _ _ c.inv_mix_byte.ensures c.inv_mix_byte-2.ensures c.inv_mix_byte-3.ensures c.inv_mix_byte-4.ensures
    ∙ ap (mixed_column inv_mix_factors) c.to_be_bytes.ensures
