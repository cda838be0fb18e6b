-- What the walk over an interval knows at each of its steps.
use Rattle.std.specs.Prelude.{◌≡◌, ◌≢◌, ℕ, ◌+◌, ◌-◌, ◌%◌, ◌^◌, ◌<◌, ◌≤◌, ◌⊎◌}
use Rattle.qe_edges.specs.Rules.{Rules, bits_of, IsStored}
use Rattle.qe_edges.specs.Prefixes.{lowest_of}
use Rattle.qe_edges.specs.declared.edge.Edge.{Edge}

-- the numbers from one to below another
abbrev pub Between : ℕ → ℕ → ℕ → Type 0
Between first end number = (first ≤ number) × (number < end)

-- no shorter stored prefix's block begins there
abbrev pub IsAlignedAlone : Rules → ℕ → ℕ → Type 0
IsAlignedAlone rules at len = (level : ℕ) → IsStored rules level → level < len → at % 2 ^ (bits_of rules - level) ≢ 0

-- no shorter stored prefix's block has as few numbers as are left
abbrev pub FitsAlone : Rules → ℕ → ℕ → Type 0
FitsAlone rules left len = (level : ℕ) → IsStored rules level → level < len → left < 2 ^ (bits_of rules - level)

-- the shortest stored prefix whose block begins at a number and ends before another
pub record IsWidestAt (rules : Rules) (at end : ℕ) (e : Edge) : Type 0 where
  pub stored : IsStored rules e.len
  pub begins : lowest_of rules e ≡ at
  pub fits : at + 2 ^ (bits_of rules - e.len) ≤ end
  pub shortest : IsAlignedAlone rules at e.len ⊎ FitsAlone rules (end - at) e.len
