use Rattle.std.proofs.Common.{◌≡◌, ◌-◌, leb, drop, map}
use Rattle.qe_value.specs.Views.{plain, field_view}
use Rattle.qe_value.specs.Measures.{depth, greatest}
use Rattle.qe_value.proofs.bounds.+depth.Given as goal

-- what is left decides
abbrev pub invariant-is_within-loop-value : goal.invariant-is_within-loop-value
invariant-is_within-loop-value l =
    leb (greatest (map (λ f. depth f.1) (map field_view (drop l.value-index l.value-items)))) (l.room - 1) ≡ leb (greatest (map (λ f. depth f.1) (map field_view l.value-items))) (l.room - 1)

abbrev pub invariant-array_within-loop-item : goal.invariant-array_within-loop-item
invariant-array_within-loop-item l =
    leb (greatest (map depth (map plain (drop l.item-index l.item-items)))) (l.room - 1) ≡ leb (greatest (map depth (map plain l.item-items))) (l.room - 1)
