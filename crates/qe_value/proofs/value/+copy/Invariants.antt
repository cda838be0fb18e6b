use Rattle.std.proofs.Common.{◌≡◌, take}
use Rattle.qe_value.proofs.value.+copy.Given as goal

abbrev pub invariant-copy_of_document-loop-name : goal.invariant-copy_of_document-loop-name
invariant-copy_of_document-loop-name l = l.fields.items ≡ take l.name-index l.name-items

abbrev pub invariant-copy_of_items-loop-item : goal.invariant-copy_of_items-loop-item
invariant-copy_of_items-loop-item l = l.items.items ≡ take l.item-index l.item-items
