-- The stored levels, and the shortest one from a level on.
use Rattle.std.proofs.Common.{◌≡◌, ℕ, suc, ◌+◌, ◌%◌, ◌<◌, ◌≤◌, ◌⊎◌, min, max, inl, inr, ap, ◌∙◌, subst, arith}
use Rattle.std.proofs.Math.Nat.{zero-mod, add-mod_right}
use Rattle.std.proofs.lemmas.Bool.{cases_lt, cases_eq}
use Rattle.std.specs.Int.{next_multiple_of}
use Rattle.qe_edges.specs.Rules.{Rules, bits_of, IsStored, IsShortestFrom, IsDomain}
use Rattle.qe_edges.specs.Rules.IsStored.{leaf, between, root}
use Rattle.qe_edges.proofs.MultipleLemmas.{next_multiple, no_step}

-- what the code computes
abbrev pub level_from : Rules → ℕ → ℕ
level_from rules level = min (next_multiple_of (max level rules.trim) rules.sparsity) (bits_of rules)

-- a string has at most 64 digits
pub bits_of-le : (rules : Rules) → bits_of rules ≤ 64
unfolding bits_of
bits_of-le rules = omega arith

-- a stored level has no more digits than the whole string
pub stored-le : (rules : Rules) (level : ℕ) → IsStored rules level → level ≤ bits_of rules
stored-le rules level (leaf at) = omega arith
stored-le rules level (between some short trimmed multiple) = omega arith
stored-le rules level (root none untrimmed) = omega arith

-- a multiple from the trim factor on and below the whole string is stored, the empty prefix too
stored_multiple : (rules : Rules) (level : ℕ) → level < bits_of rules → rules.trim ≤ level
    → level % rules.sparsity ≡ 0 → IsStored rules level
stored_multiple rules level short trimmed multiple =
    elim (cases_eq level 0) [ inl none ↦ root none (omega arith) | inr some ↦ between (omega arith) short trimmed multiple ]

-- a stored level is the whole string or such a multiple
pub stored_cases : (rules : Rules) (level : ℕ) → IsStored rules level
    → (level ≡ bits_of rules) ⊎ ((rules.trim ≤ level) × (level % rules.sparsity ≡ 0))
stored_cases rules level (leaf at) = inl at
stored_cases rules level (between some short trimmed multiple) = inr (trimmed, multiple)
stored_cases rules level (root none untrimmed) = inr (omega arith, ap (λ n. n % rules.sparsity) none ∙ zero-mod rules.sparsity)

-- it is the shortest stored level from there on
pub shortest_from : (rules : Rules) (level : ℕ) → 0 < rules.sparsity → rules.trim < bits_of rules
    → level ≤ bits_of rules → IsShortestFrom rules level (level_from rules level)
shortest_from rules level some trimmed within =
    let bits = bits_of rules in
    let next = next_multiple_of (max level rules.trim) rules.sparsity in
    let found = next_multiple (max level rules.trim) rules.sparsity some in
    record {
      stored = elim (cases_lt next bits) [
        | inl short ↦ subst (IsStored rules) (let e : next ≡ min next bits = omega arith in e)
            (stored_multiple rules next short (omega arith) found.0)
        | inr long ↦ leaf (omega arith)
      ];
      from = omega arith;
      below = λ other stored from. elim (stored_cases rules other stored) [
        | inl whole ↦ omega arith
        | inr (above, multiple) ↦ let under = no_step next other rules.sparsity found.0 multiple (omega arith) in omega arith
      ];
    }

-- whether a level is stored
pub stored_or_not : (rules : Rules) → 0 < rules.sparsity → (level : ℕ)
    → IsStored rules level ⊎ (IsStored rules level → ⊥)
stored_or_not rules some level = decide (cases_eq level (bits_of rules)) (cases_lt level (bits_of rules))
    (cases_lt level rules.trim) (cases_eq (level % rules.sparsity) 0)
  where
    decide : (level ≡ bits_of rules) ⊎ (level ≡ bits_of rules → ⊥) → (level < bits_of rules) ⊎ (bits_of rules ≤ level)
        → (level < rules.trim) ⊎ (rules.trim ≤ level)
        → (level % rules.sparsity ≡ 0) ⊎ (level % rules.sparsity ≡ 0 → ⊥) → IsStored rules level ⊎ (IsStored rules level → ⊥)
    decide (inl whole) _ _ _ = inl (leaf whole)
    decide (inr part) (inr long) _ _ = inr (λ stored. let le = stored-le rules level stored in part (omega arith))
    decide (inr part) (inl short) (inl trimmed) _ = inr
        (λ stored. elim (stored_cases rules level stored) [ inl whole ↦ part whole | inr (above, _) ↦ omega arith ])
    decide (inr part) (inl short) (inr above) (inl multiple) = inl (stored_multiple rules level short above multiple)
    decide (inr part) (inl short) (inr above) (inr rest) = inr
        (λ stored. elim (stored_cases rules level stored)
        [ inl whole ↦ part whole | inr (_, multiple) ↦ rest multiple ])

module _ (rules : Rules) (domain : IsDomain rules) where
  -- the shortest stored level from there on
  pub shortest : (level : ℕ) → level ≤ bits_of rules → IsShortestFrom rules level (level_from rules level)
  shortest level within = let some = domain.sparsity in shortest_from rules level (omega arith) domain.trim within

  -- from a stored level on it is that level
  pub level_from_here : (level : ℕ) → IsStored rules level → level_from rules level ≡ level
  level_from_here level stored =
      let found = shortest level (stored-le rules level stored) in
      let from = found.from in
      let below = found.below level stored (omega arith) in
      omega arith

  -- from a level that isn't stored on it is that from the next on
  pub level_from_next : (level : ℕ) → suc level ≤ bits_of rules → (IsStored rules level → ⊥)
      → level_from rules level ≡ level_from rules (suc level)
  level_from_next level within unstored =
      let here = shortest level (omega arith) in
      let next = shortest (suc level) within in
      let from_here = here.from in
      let from_next = next.from in
      let other : level_from rules level ≡ level → ⊥ = λ same. unstored (subst (IsStored rules) same here.stored) in
      let le = here.below (level_from rules (suc level)) next.stored (omega arith) in
      let ge = next.below (level_from rules level) here.stored (omega arith) in
      omega arith

  -- behind a stored level the next is at most the sparsity away
  pub level_from_step : (level : ℕ) → IsStored rules level → suc level ≤ bits_of rules
      → level_from rules (suc level) ≤ level + rules.sparsity
  level_from_step level stored within =
      let next = shortest (suc level) within in
      let some = domain.sparsity in
      let le = stored-le rules (level_from rules (suc level)) next.stored in
      elim (cases_lt (level + rules.sparsity) (bits_of rules)) [
        | inl short ↦ elim (stored_cases rules level stored) [
          | inl whole ↦ absurd (omega arith)
          | inr (above, multiple) ↦
              next.below (level + rules.sparsity)
              (stored_multiple rules (level + rules.sparsity) short (omega arith)
              (add-mod_right level rules.sparsity ∙ multiple)) (omega arith)
        ]
        | inr long ↦ omega arith
      ]

  -- the lowest stored level is at most 10, and a multiple of the sparsity or the whole string
  pub lowest_level : (level_from rules 0 ≤ 10) × ((level_from rules 0 ≡ bits_of rules) ⊎ (level_from rules 0 % rules.sparsity ≡ 0))
  lowest_level =
      let lowest = shortest 0 (omega arith) in (
        elim (cases_lt 10 (level_from rules 0)) [
          | inl long ↦ absurd (domain.short (λ level stored. let le = lowest.below level stored (omega arith) in omega arith))
          | inr short ↦ short
        ],
        elim (stored_cases rules (level_from rules 0) lowest.stored) [ inl whole ↦ inl whole | inr (_, multiple) ↦ inr multiple ],
      )
