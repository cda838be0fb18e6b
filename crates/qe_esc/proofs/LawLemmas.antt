-- Rows in a row have one boundary.
use Rattle.std.proofs.Common.{◌≡◌, ℕ, zero, suc, ◌+◌, ◌*◌, ◌^◌, ◌<◌, ◌≤◌, Bool, true, false, ⊎_elim, inl, arith}
use Rattle.std.proofs.lemmas.Bool.{cases_lt, cases_eq}
use Rattle.std.proofs.lemmas.Nat.{pow_pos}
use Rattle.qe_esc.specs.Boundary.{IsBoundary}
use Rattle.qe_esc.specs.Laws.{IsOnlyBoundary}
use Rattle.qe_esc.proofs.DigitLemmas.{twice}

-- there is a power of two above a number, and at most one more than twice it
power_behind : (n : ℕ) → (k : ℕ) × (n < 2 ^ k) × (2 ^ k ≤ 2 * n + 1)
power_behind zero = (0, omega arith, omega arith)
power_behind (suc n) =
    let found = power_behind n in
    ⊎_elim (λ (above : suc n < 2 ^ found.0). (found.0, above, omega (arith, found.2)))
    (λ (no : 2 ^ found.0 ≤ suc n). (suc found.0, omega (arith, twice found.0, found.1), omega (arith, twice found.0, found.1)))
    (cases_lt (suc n) (2 ^ found.0))

module _ (there : ℕ → Bool) (count : ℕ) (small : count < 2 ^ 63) (all : (i : ℕ) → 1 ≤ i → i ≤ count → there i ≡ true) (none : (i : ℕ) → count < i → i ≤ 2 * count + 1 → there i ≡ false) where
  is_boundary : IsBoundary there count
  is_boundary = record {
    below = small;
    last = λ some. all count (omega arith) (omega arith);
    next = inl (none (count + 1) (omega arith) (omega arith));
    powers = λ k less. all (2 ^ k) (omega (arith, pow_pos k)) less;
  }

  not_below : (other : ℕ) → IsBoundary there other → other < count → ⊥
  not_below other b less = ⊎_elim
      (λ (missed : there (other + 1) ≡ false). let hit : there (other + 1) ≡ true = all (other + 1) (omega arith) (omega arith) in cc)
      (λ (limit : other + 1 ≡ 2 ^ 63). omega arith)
      b.next

  not_above : (other : ℕ) → IsBoundary there other → count < other → ⊥
  not_above other b more = ⊎_elim
      (λ (far : 2 * count + 1 < other).
      let power = power_behind count in
      let hit : there (2 ^ power.0) ≡ true = b.powers power.0 (omega (arith, power.2)) in
      let missed : there (2 ^ power.0) ≡ false = none (2 ^ power.0) power.1 power.2 in cc)
      (λ (near : other ≤ 2 * count + 1).
      let hit : there other ≡ true = b.last (omega arith) in
      let missed : there other ≡ false = none other more near in cc)
      (cases_lt (2 * count + 1) other)

  pub only_boundary : IsOnlyBoundary there count
  only_boundary = record {
    is = is_boundary;
    only = λ other b. ⊎_elim (λ less. absurd (not_below other b less))
        (λ from. ⊎_elim (λ same. same) (λ apart. absurd (not_above other b (omega arith))) (cases_eq other count))
        (cases_lt other count);
  }
