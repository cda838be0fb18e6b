use Rattle.std.proofs.Common.{◌≡◌, ◌+◌, ◌*◌, map, take}
use Rattle.std.specs.Prelude.{All}
use Rattle.qe_base.specs.Bytes.{AreBytes}
use Rattle.qe_value.specs.Spelling.{spelled}
use Rattle.qe_value.specs.Views.{plain, size_of, size_of_fields, size_of_items}
use Rattle.qe_held.specs.Held.{IsFieldOfBytes}
use Rattle.qe_held.proofs.values.+bytes.Given as goal

abbrev pub decreases-value_bytes : goal.decreases-value_bytes
decreases-value_bytes l = 3 * size_of (plain l.value.now)

abbrev pub decreases-field_bytes : goal.decreases-field_bytes
decreases-field_bytes l = 3 * size_of (plain l.value.now) + 1

abbrev pub decreases-document_of_bytes : goal.decreases-document_of_bytes
decreases-document_of_bytes l = 3 * size_of_fields l.document.now + 2

abbrev pub decreases-array_of_bytes : goal.decreases-array_of_bytes
decreases-array_of_bytes l = 3 * size_of_items l.values.now + 2

-- the fields and the items that were read
abbrev pub invariant-document_of_bytes-loop-name : goal.invariant-document_of_bytes-loop-name
invariant-document_of_bytes-loop-name l = All IsFieldOfBytes (take l.name-index l.name-items)

abbrev pub invariant-array_of_bytes-loop-item : goal.invariant-array_of_bytes-loop-item
invariant-array_of_bytes-loop-item l = All (λ item. AreBytes (spelled (plain item)).bytes) (take l.item-index l.item-items)
