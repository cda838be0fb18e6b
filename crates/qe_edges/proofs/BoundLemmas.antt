-- At most how many stored blocks make up a number of strings of a domain.
use Rattle.std.proofs.Common.{◌≡◌, ℕ, zero, suc, ◌+◌, ◌-◌, ◌*◌, ◌/◌, ◌%◌, ◌^◌, ◌<◌, ◌≤◌, Bool, true, ◌&&◌, leb, inl, inr, refl, sym, ap, ◌∙◌, subst, arith}
use Rattle.std.proofs.Math.Nat.{pow-suc, mul-le-mul_right, mul-le-mul_left, zero-mul, one-mul, sub-zero}
use Rattle.std.proofs.lemmas.Bool.{cases_lt, cases_eq, and_parts, leb-true}
use Rattle.qe_edges.specs.Rules.{Rules, bits_of, IsDomain}
use Rattle.qe_edges.specs.Rules.IsStored.{leaf}
use Rattle.qe_edges.proofs.LevelLemmas.{level_from, shortest, stored_or_not, level_from_here, level_from_next, level_from_step, lowest_level, bits_of-le}
use Rattle.qe_edges.proofs.CountLemmas.{weight_of, blocks_in, weight_here, weight_twice}

-- below n, 2 ^ g lies under the line through 0 and n
abbrev chords : ℕ → ℕ → Bool
chords n zero = true
chords n (suc g) = leb (n * 2 ^ g) (n + (2 ^ n - 1) * g) && chords n g

chord_at : (n k g : ℕ) → chords n k ≡ true → g < k → n * 2 ^ g ≤ n + (2 ^ n - 1) * g
chord_at n zero g all below = absurd (omega arith)
chord_at n (suc k) g all below =
    let parts = and_parts (leb (n * 2 ^ k) (n + (2 ^ n - 1) * k)) (chords n k) all in
    elim (cases_eq g k) [
      | inl same ↦ subst (λ g. n * 2 ^ g ≤ n + (2 ^ n - 1) * g) (sym same) (leb-true _ _ parts.0)
      | inr other ↦ chord_at n k g parts.1 (omega arith)
    ]

-- behind a level that isn't stored the bound stays
line_stays : (scale slope lowest next top total last weight : ℕ) → last ≤ weight
    → scale * (total + weight * 2) + slope * lowest ≤ slope * next + scale * top
    → scale * (total + last + weight) + slope * lowest ≤ slope * next + scale * top
line_stays scale slope lowest next top total last weight small under =
    let grows : scale * (total + last + weight) ≤ scale * (total + weight * 2) = mul-le-mul_left scale (omega arith) in
    omega arith

-- behind a stored level it rises by the slope
line_rises : (scale slope lowest level next top total last weight : ℕ) → last ≤ weight → level ≤ next
    → scale * (weight * 2) ≤ scale + slope * (next - level)
    → scale * (total + 1) + slope * lowest ≤ slope * level + scale * top
    → scale * (total + last + weight) + slope * lowest ≤ slope * next + scale * top
line_rises scale slope lowest level next top total last weight small from step under =
    let grows : scale * (total + last + weight) ≤ scale * (total + weight * 2) = mul-le-mul_left scale (omega arith) in
    let rise = ap (λ n. slope * n) (let e : next ≡ level + (next - level) = omega arith in e) in
    omega arith

module _ (rules : Rules) (domain : IsDomain rules) (scale slope : ℕ)
    (steps : (g : ℕ) → g ≤ rules.sparsity → scale * 2 ^ g ≤ scale + slope * g) where
  -- the stored blocks grow with the levels by the slope at most
  below_line : (level count : ℕ) → level ≤ bits_of rules → count < 2 ^ level
      → scale * (blocks_in rules level count + weight_of rules level) + slope * level_from rules 0
      ≤ slope * level_from rules level + scale * 2 ^ level_from rules 0
  below_line zero count within few =
      let lowest = level_from rules 0 in
      let none : count ≡ 0 = omega arith in
      let start = ap (λ n. n * weight_of rules 0) none ∙ zero-mul (weight_of rules 0) in
      let whole = ap (λ h. 2 ^ h) (sub-zero lowest) in
      rw (start, whole) (omega arith)
  below_line (suc level) count within few =
      let twice = pow-suc 2 level in
      let under = below_line level (count / 2) (omega arith) (omega arith) in
      let weight = weight_of rules (suc level) in
      let bit : count % 2 ≤ 1 = omega arith in
      let small : count % 2 * weight ≤ weight = omega (arith, mul-le-mul_right weight bit) in
      let lowest = level_from rules 0 in
      let next = level_from rules (suc level) in
      let total = blocks_in rules level (count / 2) in
      let double = weight_twice rules domain level within in
      let bound : ℕ → ℕ → Type 0 = λ w n. scale * (total + w) + slope * lowest ≤ slope * n + scale * 2 ^ lowest in
      elim (stored_or_not rules domain.sparsity.0 level) [
        | inl stored ↦
            let from = (shortest rules domain (suc level) within).from in
            let near = level_from_step rules domain level stored within in
            let step = subst (λ w. scale * w ≤ scale + slope * (next - level)) double (steps (next - level) (omega arith)) in
            line_rises scale slope lowest level next (2 ^ lowest) total (count % 2 * weight) weight small (omega arith) step
            (subst (bound 1) (level_from_here rules domain level stored)
            (subst (λ w. bound w (level_from rules level)) (weight_here rules domain level stored) under))
        | inr unstored ↦
            let same = level_from_next rules domain level within unstored in
            let weights = ap (λ l. 2 ^ (l - level)) same ∙ double in
            line_stays scale slope lowest next (2 ^ lowest) total (count % 2 * weight) weight small
            (subst (bound (weight * 2)) same (subst (λ w. bound w (level_from rules level)) weights under))
      ]

  -- for a number of strings below that of all
  pub below_slope : (x : ℕ) → x < 2 ^ bits_of rules
      → scale * (blocks_in rules (bits_of rules) x + 1) + slope * level_from rules 0
      ≤ slope * bits_of rules + scale * 2 ^ level_from rules 0
  below_slope x few =
      let bits = bits_of rules in
      let lowest = level_from rules 0 in
      let stored = leaf refl in
      let bound : ℕ → ℕ → Type 0 = λ w n. scale * (blocks_in rules bits x + w) + slope * lowest ≤ slope * n + scale * 2 ^ lowest in
      subst (bound 1) (level_from_here rules domain bits stored)
      (subst (λ w. bound w (level_from rules bits)) (weight_here rules domain bits stored)
      (below_line bits x (omega arith) few))

-- all strings make up as many blocks as there are prefixes of the lowest level
blocks_of_all : (rules : Rules) (level : ℕ) → blocks_in rules level (2 ^ level) ≡ weight_of rules 0
blocks_of_all rules zero = one-mul (weight_of rules 0)
blocks_of_all rules (suc level) =
    let twice = pow-suc 2 level in
    let half : 2 ^ suc level / 2 ≡ 2 ^ level = omega arith in
    let even : 2 ^ suc level % 2 ≡ 0 = omega arith in
    rw (half, even) (omega (arith, blocks_of_all rules level))

-- of a domain's strings it is at most half of what a cover may have
pub blocks_bound : (rules : Rules) → IsDomain rules → (x : ℕ) → x ≤ 2 ^ bits_of rules
    → blocks_in rules (bits_of rules) x ≤ 2048
blocks_bound rules domain x within =
    let lowest = level_from rules 0 in
    let low = lowest_level rules domain in
    let most = bits_of-le rules in
    let some = domain.sparsity in
    let ten = chord_at 10 11 lowest refl (omega arith) in
    elim (cases_lt x (2 ^ bits_of rules)) [
      | inl few ↦ elim (cases_lt rules.sparsity 8) [
        | inl seven ↦ let under = below_slope rules domain 7 127 (λ g le. chord_at 7 8 g refl (omega arith)) x few in omega arith
        | inr eight ↦
            let under = below_slope rules domain 8 255 (λ g le. chord_at 8 9 g refl (omega arith)) x few in
            elim (cases_lt lowest 9) [
              | inl short ↦ let chord = chord_at 8 9 lowest refl short in omega arith
              | inr long ↦ elim low.1 [
                | inl whole ↦ omega arith
                | inr multiple ↦
                    let eights = ap (λ n. lowest % n) (let e : 8 ≡ rules.sparsity = omega arith in e) ∙ multiple in
                    absurd (omega arith)
              ]
            ]
      ]
      | inr all ↦
          let is : x ≡ 2 ^ bits_of rules = omega arith in
          let blocks = ap (blocks_in rules (bits_of rules)) is ∙ blocks_of_all rules (bits_of rules) ∙ ap (λ h. 2 ^ h) (sub-zero lowest) in
          omega arith
    ]
