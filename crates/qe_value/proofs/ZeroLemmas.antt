-- Where the first 0 stands before the last byte.
use Rattle.std.proofs.Common.{◌≡◌, ℕ, zero, suc, ◌+◌, ◌<◌, ◌==◌, false, eqb, List, [], ◌∷◌, ◌++◌, length, get_or, take, drop, Option, None, Some, refl, sym, ap, subst, ◌∙◌, arith, inl, inr}
use Rattle.std.specs.List.{list_any}
use Rattle.std.proofs.lemmas.Bool.{ne_eqb, eq-eqb, eqb-true, cases_Bool, or_parts, or_from}
use Rattle.qe_value.specs.Reading.{longer, split_zero}

abbrev some : List ℕ × List ℕ → Option (List ℕ × List ℕ)
some s = Some s

some_is : (s t : List ℕ × List ℕ) → some s ≡ some t → s ≡ t
some_is s t e = cc

-- the first 0 that isn't the last byte cuts
pub split_some : (bytes : List ℕ) (i : ℕ) → ((k : ℕ) → k < i → get_or bytes k 0 ≡ 0 → k + 1 < length bytes → ⊥) → get_or bytes i 0 ≡ 0 → i + 1 < length bytes
    → split_zero bytes ≡ Some (take i bytes, drop (suc i) bytes)
split_some [] i none is_zero within = absurd (omega arith)
split_some (b ∷ []) i none is_zero within = absurd (omega arith)
split_some (b ∷ (c ∷ bytes)) zero none is_zero within = rw (eq-eqb b 0 is_zero) refl
split_some (b ∷ (c ∷ bytes)) (suc i) none is_zero within =
    rw (ne_eqb b 0 (λ e. none 0 (omega arith) e (omega arith)), split_some (c ∷ bytes) i (λ k lt e more. none (suc k) (omega arith) e (omega arith)) is_zero (omega arith)) refl

-- without a 0 before the last byte there is no cut
pub split_none : (bytes : List ℕ) → ((k : ℕ) → k < length bytes → get_or bytes k 0 ≡ 0 → k + 1 < length bytes → ⊥) → split_zero bytes ≡ None
split_none [] none = refl
split_none (b ∷ []) none = refl
split_none (b ∷ (c ∷ bytes)) none =
    rw (ne_eqb b 0 (λ e. none 0 (omega arith) e (omega arith)), split_none (c ∷ bytes) (λ k lt e more. none (suc k) (omega arith) e (omega arith))) refl

longer_some : (b : ℕ) (o : Option (List ℕ × List ℕ)) (s : List ℕ × List ℕ) → longer b o ≡ Some s → (t : List ℕ × List ℕ) × (o ≡ Some t) × (s ≡ (b ∷ t.0, t.1))
longer_some b None s e = absurd cc
longer_some b (Some t) s e = (t, refl, cc)

-- what is cut is a part without 0, the 0, and the rest
pub split_zero_parts : (bytes : List ℕ) (s : List ℕ × List ℕ) → split_zero bytes ≡ Some s → (bytes ≡ s.0 ++ (0 ∷ s.1)) × (list_any (λ b. b == 0) s.0 ≡ false)
split_zero_parts [] s e = absurd cc
split_zero_parts (b ∷ []) s e = absurd cc
split_zero_parts (b ∷ (c ∷ bytes)) s e =
    elim (cases_Bool (eqb b 0)) [
      | inl zero_first ↦
          let here : (b ∷ (c ∷ bytes) ≡ [] ++ (0 ∷ (c ∷ bytes))) × (list_any (λ b. b == 0) [] ≡ false) = (ap (λ (k : ℕ). k ∷ (c ∷ bytes)) (eqb-true b 0 zero_first), refl) in
          let is : Some ([], c ∷ bytes) ≡ Some s = sym (rw zero_first refl) ∙ e in
          subst (λ (y : List ℕ × List ℕ). (b ∷ (c ∷ bytes) ≡ y.0 ++ (0 ∷ y.1)) × (list_any (λ b. b == 0) y.0 ≡ false)) (some_is _ _ is) here
      | inr not_first ↦
          let t = longer_some b (split_zero (c ∷ bytes)) s (sym (rw not_first refl) ∙ e) in
          let later = split_zero_parts (c ∷ bytes) t.0 t.1 in
          subst (λ (y : List ℕ × List ℕ). (b ∷ (c ∷ bytes) ≡ y.0 ++ (0 ∷ y.1)) × (list_any (λ b. b == 0) y.0 ≡ false)) (sym t.2) (ap (λ (r : List ℕ). b ∷ r) later.0, or_from (eqb b 0) (list_any (λ k. k == 0) t.0.0) not_first later.1)
    ]

-- a part without 0, a 0, and some rest are cut there
pub split_zero_again : (text rest : List ℕ) → list_any (λ b. b == 0) text ≡ false → 0 < length rest → split_zero (text ++ (0 ∷ rest)) ≡ Some (text, rest)
split_zero_again [] [] none more = absurd (omega arith)
split_zero_again [] (c ∷ rest) none more = refl
split_zero_again (b ∷ []) rest none more =
    let parts = or_parts (eqb b 0) false none in
    rw (parts.0, split_zero_again [] rest refl more) refl
split_zero_again (b ∷ (c ∷ text)) rest none more =
    let parts = or_parts (eqb b 0) (list_any (λ b. b == 0) (c ∷ text)) none in
    rw (parts.0, split_zero_again (c ∷ text) rest parts.1 more) refl
