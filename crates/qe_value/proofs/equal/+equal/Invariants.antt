use Rattle.std.proofs.Common.{◌≡◌, take, map}
use Rattle.qe_value.specs.Views.{plain, field_view}
use Rattle.qe_value.proofs.equal.+equal.Given as goal

-- what was compared is equal
abbrev pub invariant-is_same_document-loop-i : goal.invariant-is_same_document-loop-i
invariant-is_same_document-loop-i l = map field_view (take l.i l.field-items) ≡ map field_view (take l.i l.other-inside.fields.items)

abbrev pub invariant-are_same_items-loop-i : goal.invariant-are_same_items-loop-i
invariant-are_same_items-loop-i l = map plain (take l.i l.item-items) ≡ map plain (take l.i l.other-inside.items.items)
