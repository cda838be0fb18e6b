use Rattle.std.proofs.Common.{◌≡◌, ℕ, ◌≤◌, drop}
use Rattle.qe_value.specs.Measures.{greatest, any_true}
use Rattle.qe_value.proofs.DepthLemmas.{depths_of_fields, zeros_of_fields, depths_of_items, zeros_of_items, FieldsLeftFit, ItemsLeftFit}
use Rattle.qe_value.proofs.bounds.+zero.Given as goal

-- what is left decides
abbrev pub invariant-has_zero-loop-name : goal.invariant-has_zero-loop-name
invariant-has_zero-loop-name l = record {
  zero : any_true (zeros_of_fields (drop l.name-index l.name-items)) ≡ any_true (zeros_of_fields l.name-items);
  deep : greatest (depths_of_fields (drop l.name-index l.name-items)) ≤ greatest (depths_of_fields l.name-items);
  fits : (room : ℕ) → greatest (depths_of_fields l.name-items) ≤ room → FieldsLeftFit room (drop l.name-index l.name-items) → FieldsLeftFit room l.name-items;
}

abbrev pub invariant-array_has_zero-loop-item : goal.invariant-array_has_zero-loop-item
invariant-array_has_zero-loop-item l = record {
  zero : any_true (zeros_of_items (drop l.item-index l.item-items)) ≡ any_true (zeros_of_items l.item-items);
  deep : greatest (depths_of_items (drop l.item-index l.item-items)) ≤ greatest (depths_of_items l.item-items);
  fits : (room : ℕ) → greatest (depths_of_items l.item-items) ≤ room → ItemsLeftFit room (drop l.item-index l.item-items) → ItemsLeftFit room l.item-items;
}
