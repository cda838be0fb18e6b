-- A value in an interval has an edge in the interval's cover: its shortest stored prefix whose block lies inside.
use Rattle.std.proofs.Common.{◌≡◌, ℕ, zero, suc, ◌+◌, ◌-◌, ◌/◌, ◌^◌, ◌<◌, ◌≤◌, ◌⊎◌, ◌↔◌, ℤ, pos, ◌+ℤ◌, ◌≤ℤ◌, inl, inr, refl, sym, ap, ◌∙◌, subst, arith}
use Rattle.std.proofs.Math.Nat.{div-one}
use Rattle.std.proofs.lemmas.Bool.{cases_lt}
use Rattle.std.proofs.lemmas.Int.{ints, by_lt_z}
use Rattle.std.proofs.lemmas.Nat.{pow_pos}
use Rattle.qe_edges.specs.Rules.{Rules, bits_of, offset_of, InDomain, IsStored, IsDomain}
use Rattle.qe_edges.specs.Rules.IsStored.{leaf}
use Rattle.qe_edges.specs.Prefixes.{Begins, lowest_of, IsInside, InInterval, IsInCover, MeetInside, MeetOnce}
use Rattle.qe_edges.specs.declared.edge.Edge.{Edge}
use Rattle.qe_edges.proofs.LevelLemmas.{stored-le, stored_or_not}
use Rattle.qe_edges.proofs.OffsetLemmas.{offset-lt}
use Rattle.qe_edges.proofs.BlockLemmas.{size_at, same_edge, begins_between, between_begins, shorter_begins, prefix_fits, block_end}
use Rattle.qe_edges.proofs.CoverLemmas.{cover_once}

-- of a test on numbers there is a least that passes, or none below a bound does
least_of : (P : ℕ → Type 0) → ((k : ℕ) → P k ⊎ (P k → ⊥)) → (n : ℕ)
    → ((k : ℕ) × P k × ((j : ℕ) → j < k → P j → ⊥)) ⊎ ((j : ℕ) → j < n → P j → ⊥)
least_of P test zero = inr (λ j below. absurd (omega arith))
least_of P test (suc n) =
    elim (least_of P test n) [
      | inl found ↦ inl found
      | inr none ↦ elim (test n) [
        | inl here ↦ inl (n, here, none)
        | inr fails ↦ inr (λ j below passes.
            elim (cases_lt j n) [
              | inl before ↦ none j before passes
              | inr from ↦ let same : j ≡ n = omega arith in fails (subst P same passes)
            ])
      ]
    ]

-- whether a number is one of the interval's
interval_or_not : (rules : Rules) (lo hi : ℤ) (x : ℕ) → InInterval rules lo hi x ⊎ (InInterval rules lo hi x → ⊥)
interval_or_not rules lo hi x =
    let v = rules.min +ℤ pos x in
    by_lt_z v lo (λ below. inr (λ inside. omega (arith, ints))) (λ from.
    by_lt_z hi v (λ above. inr (λ inside. omega (arith, ints))) (λ to.
    by_lt_z rules.max v (λ beyond. inr (λ inside. omega (arith, ints))) (λ within. inl (from, to, within))))

-- whether a block lies inside: its ends do
inside_or_not : (rules : Rules) (lo hi : ℤ) (e : Edge) → e.len ≤ bits_of rules → e.prefix < 2 ^ e.len
    → IsInside rules (InInterval rules lo hi) e ⊎ (IsInside rules (InInterval rules lo hi) e → ⊥)
inside_or_not rules lo hi e short spelled =
    let set = InInterval rules lo hi in
    let some = pow_pos (bits_of rules - e.len) in
    let ends = block_end rules e short spelled in
    let low = lowest_of rules e in
    let high = low + (size_at rules e.len - 1) in
    elim (interval_or_not rules lo hi low) [
      | inl from ↦ elim (interval_or_not rules lo hi high) [
        | inl to ↦ inl (λ x small begins. let between = begins_between rules e x begins in
            (omega (arith, ints), omega (arith, ints), omega (arith, ints)))
        | inr out ↦ inr (λ inside. out (inside high (omega arith) (between_begins rules e high (omega arith) (omega arith))))
      ]
      | inr out ↦ inr (λ inside. out (inside low (omega arith) (between_begins rules e low (omega arith) (omega arith))))
    ]

-- the prefix of so many digits of a number
abbrev prefix_at : Rules → ℕ → ℕ → Edge
prefix_at rules x level = record { prefix = x / size_at rules level; len = level }

module _ (rules : Rules) (domain : IsDomain rules) (lo hi : ℤ) (x : ℕ) (fits : x < 2 ^ bits_of rules)
    (held : InInterval rules lo hi x) where
  -- a stored prefix of the number, inside the interval
  abbrev IsFit : ℕ → Type 0
  IsFit level = IsStored rules level × IsInside rules (InInterval rules lo hi) (prefix_at rules x level)

  fit_or_not : (level : ℕ) → IsFit level ⊎ (IsFit level → ⊥)
  fit_or_not level =
      elim (stored_or_not rules domain.sparsity.0 level) [
        | inl stored ↦
            let short = stored-le rules level stored in
            elim (inside_or_not rules lo hi (prefix_at rules x level) short
            (prefix_fits rules (prefix_at rules x level) x short fits refl)) [
              | inl inside ↦ inl (stored, inside)
              | inr out ↦ inr (λ fit. out fit.1)
            ]
        | inr unstored ↦ inr (λ fit. unstored fit.0)
      ]

  -- the whole string is one
  whole_fits : IsFit (bits_of rules)
  whole_fits =
      let bits = bits_of rules in
      let one : size_at rules bits ≡ 1 = ap (λ h. 2 ^ h) (let e : bits - bits ≡ 0 = omega arith in e) in
      let whole = λ (n : ℕ). ap (λ s. n / s) one ∙ div-one n in
      (leaf refl, λ y small begins. subst (InInterval rules lo hi) (sym (whole x) ∙ sym begins ∙ whole y) held)

  pub fit_in_cover : (e : Edge) × IsStored rules e.len × Begins rules e x × IsInCover rules lo hi e
  fit_in_cover =
      elim (least_of IsFit fit_or_not (bits_of rules + 1)) [
        | inl (level, fit, least) ↦
            let e = prefix_at rules x level in
            let short = stored-le rules level fit.0 in (
              e,
              fit.0,
              refl,
              record {
                stored = fit.0;
                spelled = prefix_fits rules e x short fits refl;
                inside = fit.1;
                shortest = λ f stored (shorter, front) inside.
                    let begins = shorter_begins rules f e x (omega arith) short front refl in
                    least f.len shorter (
                      stored,
                      subst (IsInside rules (InInterval rules lo hi))
                          (same_edge f (prefix_at rules x f.len) (sym begins) refl) inside,
                    );
              },
            )
        | inr none ↦ absurd (none (bits_of rules) (omega arith) whole_fits)
      ]

-- a value of the domain is the one at its number
value_of_offset : (rules : Rules) (v lo hi : ℤ) → InDomain rules v
    → InInterval rules lo hi (offset_of rules v) ↔ ((lo ≤ℤ v) × (v ≤ℤ hi))
value_of_offset rules v lo hi held = (
  λ inside. (omega (arith, ints), omega (arith, ints)),
  λ (low, high). (omega (arith, ints), omega (arith, ints), omega (arith, ints)),
)

pub meet_inside : MeetInside
meet_inside rules v lo hi domain held = (
  λ between.
      let fits = offset-lt rules v domain held in
      let found = fit_in_cover rules domain lo hi (offset_of rules v) fits ((value_of_offset rules v lo hi held).1 between) in
      (found.0, ((found.1, found.2), found.3)),
  λ (e, (edge, in_cover)). (value_of_offset rules v lo hi held).0
      (in_cover.inside (offset_of rules v) (offset-lt rules v domain held) edge.1),
)

pub share_once : MeetOnce
share_once rules v lo hi e f shared_e shared_f = cover_once rules (InInterval rules lo hi) e f (offset_of rules v)
    shared_e.1 shared_f.1 shared_e.0.1 shared_f.0.1
