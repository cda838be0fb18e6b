-- The bytes counted, and those of the items to come, are all bytes.
use Rattle.std.proofs.Common.{◌≡◌, ◌+◌, ◌-◌, ◌^◌, ◌≤◌}
use Rattle.std.specs.Prelude.{replicate}
use Rattle.qe_value.specs.Measures.{items_length}
use Rattle.qe_fits.specs.Counts.{capped}
use Rattle.qe_fits.specs.Sizes.{array_of}
use Rattle.qe_fits.proofs.lengths.length_of_items.Given as goal

abbrev pub invariant-loop-place : goal.invariant-loop-place
invariant-loop-place l = record {
  small : l.length ≤ 2 ^ 32 - 1;
  told : capped (l.length + items_length l.place (replicate (l.count - l.place) l.item)) ≡ capped (array_of l.count l.item);
}
