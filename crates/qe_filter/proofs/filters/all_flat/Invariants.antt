-- The members to come are tested as all were.
use Rattle.std.proofs.Common.{◌≡◌, drop, map}
use Rattle.std.specs.List.{list_all}
use Rattle.qe_value.specs.Views.{plain}
use Rattle.qe_filter.specs.Filters.{is_flat}
use Rattle.qe_filter.proofs.filters.all_flat.Given as goal

abbrev pub invariant-loop-member : goal.invariant-loop-member
invariant-loop-member l = list_all is_flat (map plain (drop l.member-index l.members)) ≡ list_all is_flat (map plain l.members)
