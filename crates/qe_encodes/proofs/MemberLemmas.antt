-- Members of lists, by recursion, and tests that look for one.
use Rattle.std.proofs.Common.{◌≡◌, ◌<◌, ◌⊎◌, ℕ, zero, suc, List, [], ◌∷◌, ◌++◌, map, length, get_or, Bool, true, false, refl, sym, ap, ◌∙◌, subst, inl, inr, arith}
use Rattle.std.proofs.lemmas.Bool.{or_cases, or_left, or_right, false≢true}
use Rattle.std.proofs.lemmas.Slice.Eq.{bytes_eq-Decides}
use Rattle.std.specs.List.{AllZip, list_any}
use Rattle.std.specs.Prelude.{bytes_eq, Contains}

-- one of the list
abbrev pub IsIn : {A : Type 0} → A → List A → Type 0
IsIn x [] = ⊥
IsIn x (y ∷ ys) = (y ≡ x) ⊎ IsIn x ys

pub in_left : {A : Type 0} (x : A) (xs ys : List A) → IsIn x xs → IsIn x (xs ++ ys)
in_left x [] ys here = absurd here
in_left x (y ∷ xs) ys (inl is) = inl is
in_left x (y ∷ xs) ys (inr later) = inr (in_left x xs ys later)

pub in_right : {A : Type 0} (x : A) (xs ys : List A) → IsIn x ys → IsIn x (xs ++ ys)
in_right x [] ys here = here
in_right x (y ∷ xs) ys here = inr (in_right x xs ys here)

pub in_cases : {A : Type 0} (x : A) (xs ys : List A) → IsIn x (xs ++ ys) → IsIn x xs ⊎ IsIn x ys
in_cases x [] ys here = inr here
in_cases x (y ∷ xs) ys (inl is) = inl (inl is)
in_cases x (y ∷ xs) ys (inr later) = elim (in_cases x xs ys later) [ inl l ↦ inl (inr l) | inr r ↦ inr r ]

pub in_map : {A B : Type 0} (f : A → B) (x : A) (xs : List A) → IsIn x xs → IsIn (f x) (map f xs)
in_map f x [] here = absurd here
in_map f x (y ∷ xs) (inl is) = inl (ap f is)
in_map f x (y ∷ xs) (inr later) = inr (in_map f x xs later)

pub of_map : {A B : Type 0} (f : A → B) (y : B) (xs : List A) → IsIn y (map f xs) → (x : A) × IsIn x xs × (f x ≡ y)
of_map f y [] here = absurd here
of_map f y (x ∷ xs) (inl is) = (x, inl refl, is)
of_map f y (x ∷ xs) (inr later) = let found = of_map f y xs later in (found.0, inr found.1, found.2)

-- the list's members are those at its places
pub contained : {A : Type 0} (x : A) (xs : List A) → IsIn x xs → Contains xs x
contained x [] here = absurd here
contained x (y ∷ xs) (inl is) = (0, omega arith, is)
contained x (y ∷ xs) (inr later) = let at = contained x xs later in (suc at.0, omega (arith, at.1), at.2)

pub in_at : {A : Type 0} (x : A) (xs : List A) (k : ℕ) → k < length xs → get_or xs k x ≡ x → IsIn x xs
in_at x [] k within is = absurd (omega (arith, within))
in_at x (y ∷ xs) zero within is = inl is
in_at x (y ∷ xs) (suc k) within is = inr (in_at x xs k (omega (arith, within)) is)

-- a test that looks for one passes exactly where there is one
pub any_tells : {A : Type 0} (test : A → Bool) (xs : List A) → list_any test xs ≡ true → (x : A) × IsIn x xs × (test x ≡ true)
any_tells test [] passes = absurd (false≢true passes)
any_tells test (x ∷ xs) passes = elim (or_cases (test x) (list_any test xs) passes) [
  | inl here ↦ (x, inl refl, here)
  | inr later ↦ let found = any_tells test xs later in (found.0, inr found.1, found.2)
]

pub any_from : {A : Type 0} (test : A → Bool) (x : A) (xs : List A) → IsIn x xs → test x ≡ true → list_any test xs ≡ true
any_from test x [] here passes = absurd here
any_from test x (y ∷ xs) (inl is) passes = or_left (test y) (list_any test xs) (ap test is ∙ passes)
any_from test x (y ∷ xs) (inr later) passes = or_right (test y) (list_any test xs) (any_from test x xs later passes)

-- lists of bytes
pub same_bytes : (a b : List ℕ) → bytes_eq a b ≡ true → a ≡ b
same_bytes a b passes = (bytes_eq-Decides a b).0 passes

pub bytes_same : (a b : List ℕ) → a ≡ b → bytes_eq a b ≡ true
bytes_same a b is = (bytes_eq-Decides a b).1 is

-- two lists have one in common
pub meet_tells : (xs ys : List (List ℕ)) → list_any (λ x. list_any (bytes_eq x) ys) xs ≡ true → (x : List ℕ) × IsIn x xs × IsIn x ys
meet_tells xs ys passes =
    let found = any_tells (λ x. list_any (bytes_eq x) ys) xs passes in
    let other = any_tells (bytes_eq found.0) ys found.2 in
    (found.0, found.1, subst (λ (y : List ℕ). IsIn y ys) (sym (same_bytes found.0 other.0 other.2)) other.1)

pub meet_from : (x : List ℕ) (xs ys : List (List ℕ)) → IsIn x xs → IsIn x ys → list_any (λ x. list_any (bytes_eq x) ys) xs ≡ true
meet_from x xs ys here there = any_from (λ x. list_any (bytes_eq x) ys) x xs here (any_from (bytes_eq x) x ys there (bytes_same x x refl))

-- two tests are one where each passes with the other
pub same_test : (a b : Bool) → (a ≡ true → b ≡ true) → (b ≡ true → a ≡ true) → a ≡ b
same_test true b to from = sym (to refl)
same_test false true to from = from refl
same_test false false to from = refl

-- what is zipped to a member
pub zip_first : {A B : Type 0} (R : A → B → Type 0) (xs : List A) (ys : List B) (x : A) → AllZip R xs ys → IsIn x xs
    → (y : B) × IsIn y ys × R x y
zip_first R [] ys x each here = absurd here
zip_first R (z ∷ xs) [] x each here = absurd each
zip_first R (z ∷ xs) (y ∷ ys) x each (inl is) = (y, inl refl, subst (λ w. R w y) is each.0)
zip_first R (z ∷ xs) (y ∷ ys) x each (inr later) = let found = zip_first R xs ys x each.1 later in (found.0, inr found.1, found.2)

pub zip_second : {A B : Type 0} (R : A → B → Type 0) (xs : List A) (ys : List B) (y : B) → AllZip R xs ys → IsIn y ys
    → (x : A) × IsIn x xs × R x y
zip_second R [] [] y each here = absurd here
zip_second R [] (z ∷ ys) y each here = absurd each
zip_second R (x ∷ xs) [] y each here = absurd here
zip_second R (x ∷ xs) (z ∷ ys) y each (inl is) = (x, inl refl, subst (λ w. R x w) is each.0)
zip_second R (x ∷ xs) (z ∷ ys) y each (inr later) = let found = zip_second R xs ys y each.1 later in (found.0, inr found.1, found.2)
