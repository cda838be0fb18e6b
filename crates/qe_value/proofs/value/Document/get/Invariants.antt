use Rattle.std.proofs.Common.{◌≡◌, drop, map}
use Rattle.qe_value.specs.Names.{value_named}
use Rattle.qe_value.specs.Views.{field_view}
use Rattle.qe_value.proofs.value.Document.get.Given as goal

abbrev pub invariant-loop-other : goal.invariant-loop-other
invariant-loop-other l = value_named l.name (map field_view (drop l.other-index l.other-items)) ≡ value_named l.name (map field_view l.other-items)
