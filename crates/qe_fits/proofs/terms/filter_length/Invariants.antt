-- The bytes counted, and those of the terms to come, are all bytes.
use Rattle.std.proofs.Common.{◌≡◌, ◌+◌, ◌-◌, ◌^◌, ◌≤◌, drop, map}
use Rattle.qe_value.specs.Measures.{items_length}
use Rattle.qe_fits.specs.Counts.{capped}
use Rattle.qe_fits.specs.Sizes.{filter_size, term_size}
use Rattle.qe_fits.proofs.terms.filter_length.Given as goal

abbrev pub invariant-loop-place : goal.invariant-loop-place
invariant-loop-place l = record {
  small : l.length ≤ 2 ^ 32 - 1;
  told : capped (l.length + items_length l.place (map (term_size l.fields) (drop l.place l.terms))) ≡ capped (filter_size l.fields l.terms);
}
