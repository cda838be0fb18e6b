use Rattle.std.proofs.Common.{◌≡◌, drop, map}
use Rattle.qe_value.specs.Measures.{all_true, distinct_in}
use Rattle.qe_value.specs.Views.{plain}
use Rattle.qe_value.proofs.value.Document.from_fields.Given as goal

-- what is left decides
abbrev pub invariant-loop-value : goal.invariant-loop-value
invariant-loop-value l = all_true (map (λ f. distinct_in (plain f.1)) (drop l.value-index l.value-items)) ≡ all_true (map (λ f. distinct_in (plain f.1)) l.value-items)
