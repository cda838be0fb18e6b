-- The names to come fill the places as all names fill empty ones.
use Rattle.std.proofs.Common.{◌≡◌, drop, length, map}
use Rattle.qe_value.specs.Views.{field_view}
use Rattle.qe_resolve.specs.Pairs.{pair_slots_from}
use Rattle.qe_resolve.specs.Slots.{empty_slots}
use Rattle.qe_resolve.proofs.pairs.filled.Given as goal

abbrev pub invariant-loop-element : goal.invariant-loop-element
invariant-loop-element l = record {
  told : pair_slots_from l.fields l.slots.items (map field_view (drop l.element-index l.elements))
      ≡ pair_slots_from l.fields (empty_slots l.fields) (map field_view l.elements);
  within : length l.slots.items ≡ length l.fields;
}
