-- The bytes counted, and those of what is to come, are all bytes.
use Rattle.std.proofs.Common.{◌≡◌, ◌+◌, ◌-◌, ◌*◌, ◌^◌, ◌≤◌, drop, map}
use Rattle.qe_value.specs.Measures.{value_length, fields_length, items_length, length_field}
use Rattle.qe_value.specs.Views.{plain, field_view, size_of, size_of_fields, size_of_items}
use Rattle.qe_fits.specs.Counts.{capped}
use Rattle.qe_fits.proofs.lengths.+length.Given as goal

abbrev pub decreases-value_length : goal.decreases-value_length
decreases-value_length l = 2 * size_of (plain l.value.now)

abbrev pub decreases-document_length : goal.decreases-document_length
decreases-document_length l = 2 * size_of_fields l.document.now + 1

abbrev pub decreases-array_length : goal.decreases-array_length
decreases-array_length l = 2 * size_of_items l.items.now + 1

abbrev pub invariant-document_length-loop-name : goal.invariant-document_length-loop-name
invariant-document_length-loop-name l = record {
  small : l.length ≤ 2 ^ 32 - 1;
  told : capped (l.length + fields_length (map length_field (map field_view (drop l.name-index l.name-items))))
      ≡ capped (fields_length (map length_field (map field_view l.name-items)) + 5);
}

abbrev pub invariant-array_length-loop-place : goal.invariant-array_length-loop-place
invariant-array_length-loop-place l = record {
  small : l.length ≤ 2 ^ 32 - 1;
  told : capped (l.length + items_length l.place (map value_length (map plain (drop l.place l.item-items))))
      ≡ capped (items_length 0 (map value_length (map plain l.item-items)) + 5);
}
