-- The names to come are tested as all are.
use Rattle.std.proofs.Common.{◌≡◌, drop, map}
use Rattle.std.specs.List.{list_all}
use Rattle.qe_value.specs.Views.{field_view}
use Rattle.qe_field.specs.Shape.{is_known}
use Rattle.qe_field.proofs.shape.are_known.Given as goal

abbrev pub invariant-loop-element : goal.invariant-loop-element
invariant-loop-element l =
    list_all (is_known l.ranged) (map field_view (drop l.element-index l.element-items)) ≡ list_all (is_known l.ranged) (map field_view l.element-items)
