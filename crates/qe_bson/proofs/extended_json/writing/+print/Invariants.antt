use Rattle.std.proofs.Common.{◌≡◌, ◌+◌, ◌*◌, true, drop, take, map}
use Rattle.serde_json.specs.Data.{no_members}
use Rattle.serde_json.specs.View.{view, members_view}
use Rattle.qe_document.specs.Views.{plain, size_of, size_of_items, size_of_fields}
use Rattle.qe_bson.specs.JsonRound.{fields_typed, items_typed}
use Rattle.qe_bson.specs.JsonWriting.{all_of, members_from, json_of, json_field}
use Rattle.qe_bson.proofs.JsonPrintLemmas.{with_data}
use Rattle.qe_bson.proofs.extended_json.writing.+print.Given as goal

abbrev pub decreases-value_json : goal.decreases-value_json
decreases-value_json l = 2 * size_of (plain l.value.now)

abbrev pub decreases-array_json : goal.decreases-array_json
decreases-array_json l = 2 * size_of_items l.items.now + 1

abbrev pub decreases-document_json : goal.decreases-document_json
decreases-document_json l = 2 * size_of_fields l.document.now + 1

-- what is written and what is left are the whole
abbrev pub invariant-array_json-loop-item : goal.invariant-array_json-loop-item
invariant-array_json-loop-item l = record {
  so_far : with_data (map view l.values.items) (all_of (map json_of (map plain (drop l.item-index l.item-items)))) ≡ all_of (map json_of (map plain l.item-items));
  typed : items_typed (map plain (take l.item-index l.item-items)) ≡ true;
}

abbrev pub invariant-document_json-loop-i : goal.invariant-document_json-loop-i
invariant-document_json-loop-i l = record {
  so_far : members_from (members_view l.members.entries) (map json_field (drop l.i l.document)) ≡ members_from no_members (map json_field l.document);
  typed : fields_typed (take l.i l.document) ≡ true;
}
