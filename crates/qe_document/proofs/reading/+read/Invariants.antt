use Rattle.std.proofs.Common.{◌≡◌, ◌+◌, ◌-◌, ◌*◌, [], length, map, drop}
use Rattle.qe_value.specs.Names.{Distinct}
use Rattle.qe_document.specs.NameSet.{Knows}
use Rattle.qe_value.specs.Reading.{value_at, field_at, item_at, all_at}
use Rattle.qe_value.specs.Views.{field_view}
use Rattle.qe_document.proofs.reading.+read.Given as goal

abbrev pub decreases-value_of : goal.decreases-value_of
decreases-value_of l = 4 * l.room + 2

abbrev pub decreases-document_of : goal.decreases-document_of
decreases-document_of l = 4 * l.room + 1

abbrev pub decreases-array_of : goal.decreases-array_of
decreases-array_of l = 4 * l.room + 1

abbrev pub decreases-fields_of : goal.decreases-fields_of
decreases-fields_of l = 4 * l.room + 4

abbrev pub decreases-items_of : goal.decreases-items_of
decreases-items_of l = 4 * l.room + 4

abbrev pub decreases-field_of : goal.decreases-field_of
decreases-field_of l = 4 * l.room + 3

abbrev pub decreases-item_of : goal.decreases-item_of
decreases-item_of l = 4 * l.room + 3

abbrev pub invariant-fields_of-loop : goal.invariant-fields_of-loop
invariant-fields_of-loop l = record {
  so_far : all_at (field_at (value_at l.room)) (length l.bytes - l.counter) (map field_view l.fields.items) l.until l.rest ≡ all_at (field_at (value_at l.room)) (length l.bytes) [] l.until l.bytes;
  distinct : Distinct l.fields.items;
  knows : Knows l.seen (drop 16 (map field_view l.fields.items));
}

abbrev pub invariant-items_of-loop : goal.invariant-items_of-loop
invariant-items_of-loop l = all_at (item_at (value_at l.room)) (length l.bytes - l.counter) l.items l.until l.rest ≡ all_at (item_at (value_at l.room)) (length l.bytes) [] l.until l.bytes
