-- The names to come fill the places as all names fill empty ones.
use Rattle.std.proofs.Common.{◌≡◌, drop, length, map}
use Rattle.qe_value.specs.Views.{field_view}
use Rattle.qe_resolve.specs.Cells.{slots_from}
use Rattle.qe_resolve.specs.Slots.{empty_slots}
use Rattle.qe_resolve.proofs.cells.filled.Given as goal

abbrev pub invariant-loop-element : goal.invariant-loop-element
invariant-loop-element l = record {
  told : slots_from l.in_set l.fields l.slots.items (map field_view (drop l.element-index l.elements))
      ≡ slots_from l.in_set l.fields (empty_slots l.fields) (map field_view l.elements);
  within : length l.slots.items ≡ length l.fields;
}
