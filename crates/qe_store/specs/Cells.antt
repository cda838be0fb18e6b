-- Cells by the number of their field.
use Rattle.std.specs.Prelude.{ℕ, List, map}
use Rattle.std.specs.List.Sorted.{IsStrictlyIncreasing}

-- the fields' numbers rise, so no field comes twice
abbrev pub AreRising : {C : Type 0} → List (ℕ × C) → Type 0
AreRising cells = IsStrictlyIncreasing (map (λ c. c.0) cells)
