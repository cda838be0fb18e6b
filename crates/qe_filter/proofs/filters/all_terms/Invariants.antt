-- What stands in the list, and the terms of the members to come, are all terms.
use Rattle.std.proofs.Common.{◌≡◌, drop, map}
use Rattle.qe_value.specs.Views.{plain}
use Rattle.qe_field.specs.Judgements.{ahead, gather}
use Rattle.qe_filter.specs.Filters.{member_terms}
use Rattle.qe_filter.proofs.filters.all_terms.Given as goal

abbrev pub invariant-loop-member : goal.invariant-loop-member
invariant-loop-member l =
    ahead l.terms (gather (member_terms l.fields) (map plain (drop l.member-index l.members)))
    ≡ ahead l.initial.terms (gather (member_terms l.fields) (map plain l.members))
