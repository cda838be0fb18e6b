use Rattle.std.proofs.Common.{◌≡◌, ◌+◌, ◌*◌, ◌++◌, ◌≤◌, length, map, drop}
use Rattle.qe_value.specs.Spelling.{fields_bytes, items_bytes, spelled, spelled_field}
use Rattle.qe_value.specs.Views.{plain, field_view, size_of, size_of_items, size_of_fields}
use Rattle.qe_encode.proofs.writing.+write.Given as goal

abbrev pub decreases-put_value : goal.decreases-put_value
decreases-put_value l = 3 * size_of (plain l.value.now)

abbrev pub decreases-put_element : goal.decreases-put_element
decreases-put_element l = 3 * size_of (plain l.value.now) + 1

abbrev pub decreases-put_document : goal.decreases-put_document
decreases-put_document l = 3 * size_of_fields l.document.now + 2

abbrev pub decreases-put_array : goal.decreases-put_array
decreases-put_array l = 3 * size_of_items l.values.now + 2

-- what is written and what is left are the whole
abbrev pub invariant-put_document-loop-name : goal.invariant-put_document-loop-name
invariant-put_document-loop-name l = record {
  whole : l.out.items ++ fields_bytes (map spelled_field (map field_view (drop l.name-index l.name-items))) ≡ l.initial.out.items ++ fields_bytes (map spelled_field (map field_view l.name-items));
  small : length l.out.items ≤ l.limit;
}

abbrev pub invariant-put_array-loop-i : goal.invariant-put_array-loop-i
invariant-put_array-loop-i l = record {
  whole : l.out.items ++ items_bytes l.i (map spelled (map plain (drop l.i l.item-items))) ≡ l.initial.out.items ++ items_bytes 0 (map spelled (map plain l.item-items));
  small : length l.out.items ≤ l.limit;
}
