-- The names to come are tested as all are.
use Rattle.std.proofs.Common.{◌≡◌, drop, map}
use Rattle.qe_value.specs.Views.{field_view}
use Rattle.qe_script.specs.Fields.{is_bare}
use Rattle.qe_script.proofs.fields.is_bare.Given as goal

abbrev pub invariant-loop-element : goal.invariant-loop-element
invariant-loop-element l = is_bare (map field_view (drop l.element-index l.element-items)) ≡ is_bare (map field_view l.element-items)
