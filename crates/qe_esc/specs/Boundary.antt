-- Where rows end, as a search may find it that doesn't look at all of them. The order in which it asks, and its limit, are this
-- project's own.
use Rattle.std.specs.Prelude.{◌≡◌, ℕ, ◌+◌, ◌^◌, ◌<◌, ◌≤◌, Bool, true, false, ◌⊎◌}

-- `there` says whether the row at a distance is there. The last row is, the next isn't or lies at the limit of all
-- searches, and so is the row at each power of two up to the last.
pub record IsBoundary (there : ℕ → Bool) (count : ℕ) : Type 0 where
  pub below : count < 2 ^ 63
  pub last : 0 < count → there count ≡ true
  pub next : (there (count + 1) ≡ false) ⊎ (count + 1 ≡ 2 ^ 63)
  pub powers : (k : ℕ) → 2 ^ k ≤ count → there (2 ^ k) ≡ true
