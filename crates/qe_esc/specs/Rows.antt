-- The rows of a collection, by identifier.
use Rattle.std.specs.Prelude.{ℕ, List, Option, None, Some, Bool, true, false, is_some, filter}
use Rattle.std.specs.FinMap.{FinMap, get, keys}
use Rattle.std.specs.Cmp.Lexicographic.{slice_cmp}
use Rattle.std.specs.Ordering.{nat_cmp}

-- a position has no value; an anchor has 32 bytes
abbrev pub Row : Type 0
Row = Option (List ℕ)

abbrev pub Rows : Type 0
Rows = FinMap (slice_cmp nat_cmp) Row

-- the rows, and how many more there is room for
pub record Held : Type 0 where
  pub rows : Rows
  pub spare : ℕ

abbrev pub has : Rows → List ℕ → Bool
has rows id = is_some (get rows id)

-- whether there is a row, and it has no value
abbrev pub is_position : Option Row → Bool
is_position (Some None) = true
is_position row = false

-- the identifiers of rows without a value, in rising order
abbrev pub position_ids : Rows → List (List ℕ)
position_ids rows = filter (λ id. is_position (get rows id)) (keys rows)
