-- The names to come are tested as all are.
use Rattle.std.proofs.Common.{◌≡◌, drop, map}
use Rattle.std.specs.List.{list_all}
use Rattle.qe_value.specs.Views.{field_view}
use Rattle.qe_filter.specs.Filters.{is_end}
use Rattle.qe_filter.proofs.filters.are_ends.Given as goal

abbrev pub invariant-loop-element : goal.invariant-loop-element
invariant-loop-element l = list_all is_end (map field_view (drop l.element-index l.element-items)) ≡ list_all is_end (map field_view l.element-items)
