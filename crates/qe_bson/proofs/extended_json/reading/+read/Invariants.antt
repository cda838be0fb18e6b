use Rattle.std.proofs.Common.{◌≡◌, drop, map}
use Rattle.serde_json.specs.View.{items_view, members_view}
use Rattle.qe_document.specs.Views.{field_view}
use Rattle.qe_bson.specs.JsonReading.{items_at, fields_at}
use Rattle.qe_bson.proofs.JsonReadLemmas.{with_items, with_fields}
use Rattle.qe_bson.proofs.extended_json.reading.+read.Given as goal

-- what is read and what is left are the whole
abbrev pub invariant-items_of-loop-item : goal.invariant-items_of-loop-item
invariant-items_of-loop-item l = with_items l.values (items_at l.room (items_view (drop l.item-index l.item-items))) ≡ items_at l.room (items_view l.item-items)

abbrev pub invariant-fields_of-loop-name : goal.invariant-fields_of-loop-name
invariant-fields_of-loop-name l = with_fields (map field_view l.fields.items) (fields_at l.room (members_view l.name-iterator)) ≡ fields_at l.room (members_view l.members.entries)
