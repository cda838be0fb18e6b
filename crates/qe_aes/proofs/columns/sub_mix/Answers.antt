use Rattle.std.proofs.Common.{rules, map, ap, sym, ◌∙◌, slice_index}
use Rattle.std.specs.List.{range_with_len}
use Rattle.qe_aes.specs.Field.{sub_byte}
use Rattle.qe_aes.specs.Steps.{mix_factors}
use Rattle.qe_aes.specs.Words.{mixed_column}
use Rattle.qe_aes.proofs.WordLemmas.{listed, word_bytes-mixed}
use Rattle.qe_aes.proofs.columns.sub_mix.Goals as goal

pub returns : goal.returns
returns c =
    word_bytes-mixed mix_factors (map sub_byte (map (λ k. slice_index c.args.column k) (range_with_len 0 4))) _ _ _ _
    c.sub_mix_byte.ensures c.sub_mix_byte-2.ensures c.sub_mix_byte-3.ensures c.sub_mix_byte-4.ensures
    ∙ ap (λ l. mixed_column mix_factors (map sub_byte l)) (sym (listed c.args.column 4 (search rules)))
