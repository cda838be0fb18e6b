-- What stands at places for fields, and what is listed of them.
use Rattle.std.proofs.Common.{◌≡◌, ℕ, zero, suc, ◌+◌, ◌<◌, ◌≤◌, ◌⊎◌, inl, inr, List, [], ◌∷◌, Option, None, Some, refl, ap, subst, arith}
use Rattle.std.specs.Prelude.{All, IfSome, slice_get, slice_set}
use Rattle.std.specs.List.{AllByRecursion, AllPairs}
use Rattle.std.proofs.lemmas.List.Elements.{All-cons, All-weaker}
use Rattle.std.proofs.lemmas.List.Kept.{AllPairs-cons}
use Rattle.qe_resolve.specs.Slots.{put, empty_slots, listed_from}

-- what stands at the places, of which the first has a number
abbrev pub Stand : {V : Type 0} → (ℕ → V → Type 0) → ℕ → List (Option V) → Type 0
Stand {V} P i slots = (n : ℕ) (v : V) → slice_get slots n ≡ Some (Some v) → P (i + n) v

nothing_at : {A V : Type 0} (items : List A) (n : ℕ) (v : V) → slice_get (empty_slots items) n ≡ Some (Some v) → ⊥
nothing_at [] n v h = cc
nothing_at (item ∷ items) zero v h = cc
nothing_at (item ∷ items) (suc n) v h = nothing_at items n v h

pub none_stand : {A V : Type 0} (P : ℕ → V → Type 0) (items : List A) → Stand P 0 (empty_slots items)
none_stand P items n v h = absurd (nothing_at items n v h)

-- what stands at a place after a write
set_get : {A : Type 0} (slots : List A) (i n : ℕ) (x y : A) → slice_get (slice_set slots i x) n ≡ Some y → ((n ≡ i) × (x ≡ y)) ⊎ (slice_get slots n ≡ Some y)
set_get [] i n x y h = inr h
set_get (s ∷ slots) zero zero x y h = inl (refl, cc)
set_get (s ∷ slots) zero (suc n) x y h = inr h
set_get (s ∷ slots) (suc i) zero x y h = inr h
set_get (s ∷ slots) (suc i) (suc n) x y h =
    elim (set_get slots i n x y h) [
      | inl both ↦ inl (ap suc both.0, both.1)
      | inr kept ↦ inr kept
    ]

pub put_stand : {V : Type 0} (P : ℕ → V → Type 0) (placed : Option (ℕ × V)) (slots : List (Option V)) → IfSome placed (λ p. P p.0 p.1) → Stand P 0 slots
    → Stand P 0 (put placed slots)
put_stand P None slots new stand n v h = stand n v h
put_stand P (Some placed) slots new stand n v h =
    elim (set_get slots placed.0 n (Some placed.1) (Some v) h) [
      | inl both ↦
          let same : placed.1 ≡ v = let e = both.1 in cc in
          let at : placed.0 ≡ 0 + n = let e = both.0 in omega arith in
          subst (λ w. P (0 + n) w) same (subst (λ i. P i placed.1) at new)
      | inr old ↦ stand n v old
    ]

pub listed_all : {V W : Type 0} (P : ℕ → V → Type 0) (Q : W → Type 0) (item : ℕ → V → W) → ((n : ℕ) (v : V) → P n v → Q (item n v))
    → (i : ℕ) (slots : List (Option V)) → Stand P i slots → AllByRecursion Q (listed_from item i slots)
listed_all P Q item holds i [] stand = tt
listed_all P Q item holds i (None ∷ slots) stand =
    listed_all P Q item holds (i + 1) slots (λ n v h. let at : i + suc n ≡ (i + 1) + n = omega arith in subst (λ m. P m v) at (stand (suc n) v h))
listed_all P Q item holds i (Some w ∷ slots) stand = (
  let at : i + 0 ≡ i = omega arith in holds i w (subst (λ m. P m w) at (stand 0 w refl)),
  listed_all P Q item holds (i + 1) slots (λ n v h. let at : i + suc n ≡ (i + 1) + n = omega arith in subst (λ m. P m v) at (stand (suc n) v h)),
)

-- numbers that rise from one on
pub record Rise {W : Type 0} (number : W → ℕ) (first : ℕ) (items : List W) : Type 0 where
  pub from : All (λ w. first ≤ number w) items
  pub pairs : AllPairs (λ a b. number a < number b) items

pub rise_nil : {W : Type 0} (number : W → ℕ) (first : ℕ) → Rise number first []
rise_nil number first = record { from = λ k d lt. absurd (omega arith); pairs = λ n m d lt past_end. absurd (omega arith) }

pub rise_later : {W : Type 0} (number : W → ℕ) (first : ℕ) (items : List W) → Rise number (first + 1) items → Rise number first items
rise_later number first items rise =
    record { from = All-weaker (λ w. first + 1 ≤ number w) (λ w. first ≤ number w) (λ w h. omega arith) items rise.from; pairs = rise.pairs }

pub rise_cons : {W : Type 0} (number : W → ℕ) (first : ℕ) (w : W) (items : List W) → number w ≡ first → Rise number (first + 1) items → Rise number first (w ∷ items)
rise_cons number first w items is rise =
    record {
      from = All-cons (λ w. first ≤ number w) w items (omega arith) (All-weaker (λ w. first + 1 ≤ number w) (λ w. first ≤ number w) (λ w h. omega arith) items rise.from);
      pairs = AllPairs-cons (λ a b. number a < number b) w items
          (All-weaker (λ x. first + 1 ≤ number x) (λ x. number w < number x) (λ x h. omega arith) items rise.from) rise.pairs;
    }

pub listed_rise : {V W : Type 0} (number : W → ℕ) (item : ℕ → V → W) → ((n : ℕ) (v : V) → number (item n v) ≡ n)
    → (i : ℕ) (slots : List (Option V)) → Rise number i (listed_from item i slots)
listed_rise number item is i [] = rise_nil number i
listed_rise number item is i (None ∷ slots) = rise_later number i _ (listed_rise number item is (i + 1) slots)
listed_rise number item is i (Some v ∷ slots) = rise_cons number i (item i v) _ (is i v) (listed_rise number item is (i + 1) slots)
