-- What holds of boundaries, of digits, of anchors' values and of changes.
use Rattle.std.specs.Prelude.{◌≡◌, ◌↔◌, ℕ, List, length, ◌+◌, ◌*◌, ◌^◌, ◌<◌, ◌≤◌, Bool, true, false, unwrap_or}
use Rattle.std.specs.FinMap.{get}
use Rattle.qe_esc.specs.Boundary.{IsBoundary}
use Rattle.qe_esc.specs.Digits.{digits}
use Rattle.qe_esc.specs.Pairs.{sealed_pair, opened_pair}
use Rattle.qe_esc.specs.Rows.{Rows}
use Rattle.qe_esc.specs.Changes.{Waiting, changed}

-- the count is a boundary, and no other number is
pub record IsOnlyBoundary (there : ℕ → Bool) (count : ℕ) : Type 0 where
  pub is : IsBoundary there count
  pub only : (other : ℕ) → IsBoundary there other → other ≡ count

-- where all rows up to a count are there, and none behind it up to twice as far, a search finds that count
abbrev pub RowsInARow : Type 0
RowsInARow = (there : ℕ → Bool) (count : ℕ) → count < 2 ^ 63
    → ((i : ℕ) → 1 ≤ i → i ≤ count → there i ≡ true)
    → ((i : ℕ) → count < i → i ≤ 2 * count + 1 → there i ≡ false)
    → IsOnlyBoundary there count

-- a number has more than k digits exactly where 2^k isn't above it
abbrev pub DigitsCounted : Type 0
DigitsCounted = (k number : ℕ) → (2 ^ k ≤ number) ↔ (k < digits number)

-- a value opens to the numbers that it was sealed from
abbrev pub AnchorsOpen : Type 0
AnchorsOpen = (token iv : List ℕ) (apos cpos : ℕ) → length iv ≡ 16 → apos < 2 ^ 64 → cpos < 2 ^ 64
    → opened_pair token (sealed_pair token iv apos cpos) ≡ (apos, cpos)

-- an identifier has what waits for it, or else what it had
abbrev pub ChangedById : Type 0
ChangedById = (rows : Rows) (waiting : Waiting) (id : List ℕ) → get (changed rows waiting) id ≡ unwrap_or (get waiting id) (get rows id)
