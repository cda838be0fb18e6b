-- The bytes counted, and those of the pairs to come, are all bytes.
use Rattle.std.proofs.Common.{◌≡◌, ◌+◌, ◌-◌, ◌^◌, ◌≤◌, drop, map}
use Rattle.qe_value.specs.Measures.{fields_length}
use Rattle.qe_fits.specs.Counts.{capped}
use Rattle.qe_fits.specs.Sizes.{pair_element}
use Rattle.qe_fits.proofs.command.tokens_length.Given as goal

abbrev pub invariant-loop-pair : goal.invariant-loop-pair
invariant-loop-pair l = record {
  small : l.length ≤ 2 ^ 32 - 1;
  told : capped (l.length + fields_length (map (pair_element l.fields) (drop l.pair-index l.pairs))) ≡ capped (fields_length (map (pair_element l.fields) l.pairs));
}
