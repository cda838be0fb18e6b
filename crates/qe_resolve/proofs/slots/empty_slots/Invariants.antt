-- The places made, and those to come, are one for each field.
use Rattle.std.proofs.Common.{◌≡◌, ◌++◌, drop}
use Rattle.qe_resolve.specs.Slots.{empty_slots}
use Rattle.qe_resolve.proofs.slots.empty_slots.Given as goal

abbrev pub invariant-loop-field : goal.invariant-loop-field
invariant-loop-field g l = l.made.items ++ empty_slots (drop l._field-index l.fields) ≡ empty_slots l.fields
