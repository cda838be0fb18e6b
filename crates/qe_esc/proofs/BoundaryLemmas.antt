-- A search by doubling and halving: what it keeps, and that it ends at a boundary.
use Rattle.std.proofs.Common.{◌≡◌, ℕ, zero, suc, ◌+◌, ◌-◌, ◌*◌, ◌/◌, ◌^◌, ◌<◌, ◌≤◌, Bool, true, false, ◌⊎◌, inl, inr, sym, ap, ◌∙◌, refl, subst, arith, ⊎_elim}
use Rattle.std.proofs.Math.Nat.{pow-le-pow_right}
use Rattle.std.proofs.lemmas.Bool.{cases_lt, cases_eq}
use Rattle.std.proofs.lemmas.Nat.{pow_pos}
use Rattle.qe_esc.specs.Boundary.{IsBoundary}
use Rattle.qe_esc.specs.Digits.{digits}
use Rattle.qe_esc.proofs.DigitLemmas.{twice, digits-above}

-- `found` rows were there, at each power of two below `high`; the last of them is `low`
pub record Doubling (there : ℕ → Bool) (start now low high : ℕ) : Type 0 where
  pub found : ℕ
  pub power : high ≡ 2 ^ found
  pub within : found ≤ 63
  pub below : (k : ℕ) → k < found → there (2 ^ k) ≡ true
  pub stands : 0 < low → there low ≡ true
  pub none : found ≡ 0 → low ≡ 0
  pub some : 0 < found → 2 * low ≡ high
  pub spent : now ≡ start + found

-- the gap is a power of two; what is found has at least `found` digits
pub record Halving (there : ℕ → Bool) (start now low high : ℕ) : Type 0 where
  pub found : ℕ
  pub gap : ℕ
  pub apart : high ≡ low + 2 ^ gap
  pub bound : high ≤ 2 ^ 63
  pub stands : 0 < low → there low ≡ true
  pub miss : (there high ≡ false) ⊎ (high ≡ 2 ^ 63)
  pub powers : (k : ℕ) → 2 ^ k < high → there (2 ^ k) ≡ true
  pub floor : (k : ℕ) → found ≡ k + 1 → 2 ^ k ≤ low
  pub spent : now + gap ≤ start + (2 * found + 1)

plus_twice : (k : ℕ) → 2 ^ (k + 1) ≡ 2 * 2 ^ k
plus_twice k = subst (λ n. 2 ^ n ≡ 2 * 2 ^ k) (omega arith) (twice k)

-- where a power is below another, so is its exponent
exponent_below : (j k : ℕ) → 2 ^ j < 2 ^ k → j < k
exponent_below j k less = ⊎_elim (λ yes. yes) (λ no. absurd (omega (arith, pow-le-pow_right {n = 2} (omega arith) {i = k} {j = j} no))) (cases_lt j k)

module _ (there : ℕ → Bool) (start : ℕ) where
  pub doubling_begins : Doubling there start start 0 1
  doubling_begins = record {
    found = 0;
    power = refl;
    within = omega arith;
    below = λ k less. absurd (omega arith);
    stands = λ some. absurd (omega arith);
    none = λ _. refl;
    some = λ less. absurd (omega arith);
    spent = omega arith;
  }

  pub doubling_more : (now low high : ℕ) → Doubling there start now low high → high < 2 ^ 63 → there high ≡ true → Doubling there start (now + 1) high (high * 2)
  doubling_more now low high d less hit =
      let more : 2 ^ (d.found + 1) ≡ 2 * 2 ^ d.found = plus_twice d.found in
      let room : d.found < 63 = exponent_below d.found 63 (subst (λ n. n < 2 ^ 63) d.power less) in
      record {
        found = d.found + 1;
        power = omega (arith, more, d.power);
        within = omega arith;
        below = λ k less. ⊎_elim (λ yes. d.below k yes) (λ no. let last : k ≡ d.found = omega arith in subst (λ n. there n ≡ true) (d.power ∙ ap (λ n. 2 ^ n) (sym last)) hit) (cases_lt k d.found);
        stands = λ _. hit;
        none = λ is. absurd (omega arith);
        some = λ _. omega arith;
        spent = omega (arith, d.spent);
      }

  pub at_limit : (now low high : ℕ) → Doubling there start now low high → 2 ^ 63 ≤ high → high ≡ 2 ^ 63
  at_limit now low high d far =
      let within : high ≤ 2 ^ 63 = subst (λ n. n ≤ 2 ^ 63) (sym d.power) (pow-le-pow_right {n = 2} (omega arith) {i = d.found} {j = 63} d.within) in omega arith

  -- `last` is 1 where the last probe missed, and 0 where the limit was reached
  pub halving_begins : (now low high last : ℕ) → Doubling there start now low high → last ≤ 1 → (there high ≡ false) ⊎ (high ≡ 2 ^ 63) → Halving there start (now + last) low high
  halving_begins now low high last d one miss = ⊎_elim
      (λ none. let least : 2 ^ d.found ≡ 1 = ap (λ n. 2 ^ n) none in record {
        found = 0;
        gap = 0;
        apart = omega (arith, d.none none, d.power, least);
        bound = omega (arith, d.power, least);
        stands = d.stands;
        miss = miss;
        powers = λ k less. absurd (omega (arith, d.power, least, pow_pos k));
        floor = λ k is. absurd (omega arith);
        spent = omega (arith, d.spent);
      })
      (λ some.
      let before : ℕ = d.found - 1 in
      let more : 2 ^ (before + 1) ≡ 2 * 2 ^ before = plus_twice before in
      let power : high ≡ 2 ^ (before + 1) = let e : d.found ≡ before + 1 = omega arith in subst (λ n. high ≡ 2 ^ n) e d.power in
      let half : 2 * low ≡ high = d.some (omega arith) in
      record {
        found = d.found;
        gap = before;
        apart = omega arith;
        bound = subst (λ n. n ≤ 2 ^ 63) (sym d.power) (pow-le-pow_right {n = 2} (omega arith) {i = d.found} {j = 63} d.within);
        stands = d.stands;
        miss = miss;
        powers = λ k less. d.below k (exponent_below k d.found (subst (λ n. 2 ^ k < n) d.power less));
        floor = λ k is. let same : k ≡ before = omega arith in subst (λ n. 2 ^ n ≤ low) (sym same) (omega arith);
        spent = omega (arith, d.spent);
      })
      (cases_eq d.found 0)

  -- a gap of more than 1 is two gaps of the next power
  halves : (g : ℕ) → 1 < 2 ^ g → (h : ℕ) × (g ≡ h + 1) × (2 ^ g ≡ 2 * 2 ^ h)
  halves zero wide = absurd (omega arith)
  halves (suc h) wide = (h, omega arith, twice h)

  module _ (now low high middle : ℕ) (h : Halving there start now low high) (wide : 1 < high - low) (is : middle ≡ low + (high - low) / 2) where
    pub halving_up : there middle ≡ true → Halving there start (now + 1) middle high
    halving_up hit =
        let half = halves h.gap (omega (arith, h.apart)) in
        record {
          found = h.found;
          gap = half.0;
          apart = omega (arith, h.apart, half.2);
          bound = h.bound;
          stands = λ _. hit;
          miss = h.miss;
          powers = h.powers;
          floor = λ k one. omega (arith, h.floor k one);
          spent = omega (arith, h.spent, half.1);
        }

    pub halving_down : there middle ≡ false → Halving there start (now + 1) low middle
    halving_down missed =
        let half = halves h.gap (omega (arith, h.apart)) in
        record {
          found = h.found;
          gap = half.0;
          apart = omega (arith, h.apart, half.2);
          bound = omega (arith, h.bound);
          stands = h.stands;
          miss = inl missed;
          powers = λ k less. h.powers k (omega arith);
          floor = h.floor;
          spent = omega (arith, h.spent, half.1);
        }

  module _ (now low high : ℕ) (h : Halving there start now low high) (narrow : high - low ≤ 1) where
    next_is : high ≡ low + 1
    next_is = omega (arith, h.apart, pow_pos h.gap)

    pub halving_ends : IsBoundary there low
    halving_ends = record {
      below = omega (arith, next_is, h.bound);
      last = h.stands;
      next = ⊎_elim (λ missed. inl (subst (λ n. there n ≡ false) next_is missed)) (λ limit. inr (sym next_is ∙ limit)) h.miss;
      powers = λ k less. h.powers k (omega (arith, next_is));
    }

    reached : (e : ℕ) → e ≡ h.found → e ≤ digits low
    reached zero is = omega arith
    reached (suc k) is = digits-above k low (h.floor k (omega arith))

    pub halving_spent : now ≤ start + (2 * digits low + 2)
    halving_spent = omega (arith, h.spent, reached h.found refl)
