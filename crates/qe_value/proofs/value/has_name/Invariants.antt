use Rattle.std.proofs.Common.{◌≡◌, drop, map}
use Rattle.qe_value.specs.Names.{is_named}
use Rattle.qe_value.specs.Views.{field_view}
use Rattle.qe_value.proofs.value.has_name.Given as goal

abbrev pub invariant-loop-other : goal.invariant-loop-other
invariant-loop-other l = is_named l.name (map field_view (drop l.other-index l.fields)) ≡ is_named l.name (map field_view l.fields)
