-- What stands in a list.
use Rattle.std.proofs.Common.{◌≡◌, ℕ, zero, suc, List, [], ◌∷◌, ◌++◌, Some, refl, sym, ap, subst, ◌⊎◌, inl, inr, ⊎_elim}
use Rattle.std.specs.Prelude.{slice_get, unwrap_or}
use Rattle.std.specs.List.{AllByRecursion}

abbrev pub IsAmong : {A : Type 0} → A → List A → Type 0
IsAmong x [] = ⊥
IsAmong x (y ∷ ys) = (x ≡ y) ⊎ IsAmong x ys

module _ {A : Type 0} where
  pub place_of : (x : A) (xs : List A) → IsAmong x xs → (place : ℕ) × (slice_get xs place ≡ Some x)
  place_of x [] among = absurd among
  place_of x (y ∷ ys) among = ⊎_elim (λ (here : x ≡ y). (zero, ap Some (sym here)))
      (λ (behind : IsAmong x ys). let rest = place_of x ys behind in (suc rest.0, rest.1)) among

  pub among_at : (x : A) (xs : List A) (place : ℕ) → slice_get xs place ≡ Some x → IsAmong x xs
  among_at x [] place there = absurd (cc)
  among_at x (y ∷ ys) zero there = inl (ap (λ o. unwrap_or o x) (sym there))
  among_at x (y ∷ ys) (suc place) there = inr (among_at x ys place there)

  pub among_left : (x : A) (xs ys : List A) → IsAmong x xs → IsAmong x (xs ++ ys)
  among_left x [] ys among = absurd among
  among_left x (z ∷ zs) ys among = ⊎_elim (λ (here : x ≡ z). inl here) (λ (behind : IsAmong x zs). inr (among_left x zs ys behind)) among

  pub among_right : (x : A) (xs ys : List A) → IsAmong x ys → IsAmong x (xs ++ ys)
  among_right x [] ys among = among
  among_right x (z ∷ zs) ys among = inr (among_right x zs ys among)

  pub among_cases : (x : A) (xs ys : List A) → IsAmong x (xs ++ ys) → IsAmong x xs ⊎ IsAmong x ys
  among_cases x [] ys among = inr among
  among_cases x (z ∷ zs) ys among = ⊎_elim (λ (here : x ≡ z). inl (inl here))
      (λ (behind : IsAmong x (zs ++ ys)). ⊎_elim (λ (front : IsAmong x zs). inl (inr front)) (λ (back : IsAmong x ys). inr back) (among_cases x zs ys behind)) among

  pub each_from : (P : A → Type 0) (xs : List A) → ((x : A) → IsAmong x xs → P x) → AllByRecursion P xs
  each_from P [] each = tt
  each_from P (x ∷ xs) each = (each x (inl refl), each_from P xs (λ y among. each y (inr among)))

  pub each_at : (P : A → Type 0) (xs : List A) (x : A) → AllByRecursion P xs → IsAmong x xs → P x
  each_at P [] x all among = absurd among
  each_at P (y ∷ ys) x all among = ⊎_elim (λ (here : x ≡ y). subst P (sym here) all.0) (λ (behind : IsAmong x ys). each_at P ys x all.1 behind) among
