-- What stands in the list, and the terms of the names to come, are all terms.
use Rattle.std.proofs.Common.{◌≡◌, drop, map}
use Rattle.qe_value.specs.Views.{field_view}
use Rattle.qe_field.specs.Judgements.{ahead, gather}
use Rattle.qe_filter.specs.Filters.{one_term}
use Rattle.qe_filter.proofs.filters.flat_terms.Given as goal

abbrev pub invariant-loop-element : goal.invariant-loop-element
invariant-loop-element l =
    ahead l.terms (gather (one_term l.fields) (map field_view (drop l.element-index l.element-items)))
    ≡ ahead l.initial.terms (gather (one_term l.fields) (map field_view l.element-items))
