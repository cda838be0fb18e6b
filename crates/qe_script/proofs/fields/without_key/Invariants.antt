-- What is kept, and what is kept of the elements to come, is all that is kept.
use Rattle.std.proofs.Common.{◌≡◌, ◌++◌, drop, map}
use Rattle.qe_value.specs.Views.{field_view}
use Rattle.qe_script.specs.Fields.{without_key}
use Rattle.qe_script.proofs.fields.without_key.Given as goal

abbrev pub invariant-loop-name : goal.invariant-loop-name
invariant-loop-name l =
    map field_view l.kept.items ++ without_key (map field_view (drop l.name-index l.name-items)) ≡ without_key (map field_view l.name-items)
