-- The numbers of the documents that match, and the documents in their order.
use Rattle.std.proofs.Common.{◌≡◌, ◌↔◌, ◌⊎◌, ℕ, zero, suc, ◌+◌, ◌<◌, Bool, true, false, cond, List, [], ◌∷◌, ◌++◌, length, map, filter, option_to_list, Option, Some, IsSomeAnd, IfOk, Result, Ok, Err, refl, sym, ◌∙◌, ap, ap₂, subst, inl, inr, ⊎_elim, nat_eq, arith}
use Rattle.std.specs.Prelude.{slice_get, slice_index, slice_index_or, Contains}
use Rattle.std.specs.List.{AllByRecursion}
use Rattle.std.specs.List.Sorted.{IsStrictlyIncreasing}
use Rattle.std.proofs.lemmas.Bool.{cases_Bool, eqb-true, eq-eqb, false≢true}
use Rattle.std.proofs.lemmas.List.Kept.{IsStrictlyIncreasing-filter}
use Rattle.qe_store.specs.declared.stored.Stored.{Stored}
use Rattle.qe_store.specs.declared.stored.TermSet.{TermSet}
use Rattle.qe_store.specs.Kept.{document_at, MeetsAll, IsMatch}
use Rattle.qe_protocol.specs.Filters.{matches}
use Rattle.qe_store.proofs.HoldLemmas.{ne_false}
use Rattle.qe_indexing.specs.Merge.{Over, Rises}
use Rattle.qe_indexing.proofs.MergeLemmas.{rises}
use Rattle.qe_serving.specs.Serving.{docs_in}
use Rattle.qe_serving.specs.Documents.{picked, AreMatches, FirstOf, FirstMatch, HasIdValue}
use Rattle.qe_serving.proofs.IdLemmas.{some_matches, some_matches-Decides, meets}
use Rattle.qe_serving.proofs.FirstLemmas.{first_of, first_is}

-- NUMBERS IN RISING ORDER

abbrev In : ℕ → List ℕ → Type 0
In n [] = ⊥
In n (x ∷ xs) = (x ≡ n) ⊎ In n xs

in_at : (n : ℕ) (xs : List ℕ) (k : ℕ) → k < length xs → slice_index_or xs k n ≡ n → In n xs
in_at n [] k less is = absurd (omega arith)
in_at n (x ∷ xs) zero less is = inl is
in_at n (x ∷ xs) (suc k) less is = inr (in_at n xs k (omega arith) is)

in_from : (n : ℕ) (xs : List ℕ) → Contains xs n → In n xs
in_from n xs at = in_at n xs at.0 at.1 at.2

in_to : (n : ℕ) (xs : List ℕ) → In n xs → Contains xs n
in_to n [] here = absurd here
in_to n (x ∷ xs) here = ⊎_elim
    (λ same. (0, omega arith, same))
    (λ there. let at = in_to n xs there in (suc at.0, omega (arith, at.1), at.2))
    here

abbrev Climbs : List ℕ → Type 0
Climbs [] = Unit {0}
Climbs (x ∷ xs) = AllByRecursion (λ n. x < n) xs × Climbs xs

above_less : (m n : ℕ) (xs : List ℕ) → m < n → AllByRecursion (λ k. n < k) xs → AllByRecursion (λ k. m < k) xs
above_less m n [] less above = tt
above_less m n (x ∷ xs) less above = (omega (arith, above.0), above_less m n xs less above.1)

-- the place behind the next one, of a list with one number before it
next_place : (n : ℕ) (ns : List ℕ) (k : ℕ) → slice_index (n ∷ ns) (suc k + 1) ≡ slice_index ns (k + 1)
next_place n ns k = let same : suc k + 1 ≡ suc (k + 1) = omega arith in ap (slice_index (n ∷ ns)) same

behind_first : (n : ℕ) (ns : List ℕ) → IsStrictlyIncreasing (n ∷ ns) → IsStrictlyIncreasing ns
behind_first n ns increasing k less =
    let step = increasing (suc k) (omega (arith, less)) in subst (λ last. slice_index ns k < last) (next_place n ns k) step

climbs : (xs : List ℕ) → IsStrictlyIncreasing xs → Climbs xs
climbs [] increasing = tt
climbs (x ∷ xs) increasing =
    let rest = climbs xs (behind_first x xs increasing) in (first xs increasing rest, rest)
  where
    first : (ys : List ℕ) → IsStrictlyIncreasing (x ∷ ys) → Climbs ys → AllByRecursion (λ n. x < n) ys
    first [] increasing rest = tt
    first (y ∷ ys) increasing rest = let less : x < y = increasing 0 (omega arith) in (less, above_less x y ys less rest.0)

in_above : (m n : ℕ) (xs : List ℕ) → AllByRecursion (λ k. m < k) xs → In n xs → m < n
in_above m n [] above here = absurd here
in_above m n (x ∷ xs) above here = ⊎_elim (λ (same : x ≡ n). subst (λ k. m < k) same above.0) (λ there. in_above m n xs above.1 there) here

same_climbing : (xs ys : List ℕ) → Climbs xs → Climbs ys → ((n : ℕ) → In n xs → In n ys) → ((n : ℕ) → In n ys → In n xs) → xs ≡ ys
same_climbing [] [] up also there back = refl
same_climbing [] (y ∷ ys) up also there back = absurd (back y (inl refl))
same_climbing (x ∷ xs) [] up also there back = absurd (there x (inl refl))
same_climbing (x ∷ xs) (y ∷ ys) up also there back =
    ap₂ (λ n rest. n ∷ rest) same (same_climbing xs ys up.1 also.1
    (λ n here. ⊎_elim
    (λ (is : y ≡ n). let less : x < n = in_above x n xs up.0 here in absurd (omega (arith, same)))
    (λ behind. behind)
    (there n (inr here)))
    (λ n here. ⊎_elim
    (λ (is : x ≡ n). let less : y < n = in_above y n ys also.0 here in absurd (omega (arith, same)))
    (λ behind. behind)
    (back n (inr here))))
  where
    same : x ≡ y
    same = ⊎_elim
        (λ is. sym is)
        (λ behind. ⊎_elim
        (λ is. is)
        (λ before.
        let less : y < x = in_above y x ys also.0 behind in
        let more : x < y = in_above x y xs up.0 before in
        absurd (omega arith))
        (back y (inl refl)))
        (there x (inl refl))

module _ (p : ℕ → Bool) where
  in_filter : (n : ℕ) (xs : List ℕ) → In n xs → p n ≡ true → In n (filter p xs)
  in_filter n [] here passes = here
  in_filter n (x ∷ xs) here passes = elim (cases_Bool (p x)) [
    | inl t ↦ subst (λ b. In n (cond b (x ∷ filter p xs) (filter p xs))) (sym t) (⊎_elim (λ same. inl same) (λ there. inr (in_filter n xs there passes)) here)
    | inr f ↦ subst (λ b. In n (cond b (x ∷ filter p xs) (filter p xs))) (sym f) (⊎_elim
        (λ same. absurd (false≢true (sym f ∙ ap p same ∙ passes)))
        (λ there. in_filter n xs there passes)
        here)
  ]

  passes_filter : (n : ℕ) (xs : List ℕ) → In n (filter p xs) → p n ≡ true
  passes_filter n [] here = absurd here
  passes_filter n (x ∷ xs) here = elim (cases_Bool (p x)) [
    | inl t ↦ ⊎_elim (λ same. sym (ap p same) ∙ t) (λ there. passes_filter n xs there) (subst (λ b. In n (cond b (x ∷ filter p xs) (filter p xs))) t here)
    | inr f ↦ passes_filter n xs (subst (λ b. In n (cond b (x ∷ filter p xs) (filter p xs))) f here)
  ]

-- DOCUMENTS BY THEIR NUMBERS

abbrev numbers_of : List (ℕ × Stored) → List ℕ
numbers_of documents = map (λ d. d.0) documents

there_in : (P : Stored → Type 0) (n : ℕ) (docs : List (ℕ × Stored)) → IsSomeAnd (document_at n docs) P → In n (numbers_of docs)
there_in P n [] some = absurd some
there_in P n (d ∷ docs) some = elim (cases_Bool (nat_eq n d.0)) [
  | inl t ↦ inl (sym (eqb-true n d.0 t))
  | inr f ↦ inr (there_in P n docs (subst (λ b. IsSomeAnd (cond b (Some d.1) (document_at n docs)) P) f some))
]

-- the numbers that match are all numbers whose documents do
matching_numbers : (documents : List (ℕ × Stored)) (sets : List TermSet) (numbers : List ℕ) → AllByRecursion HasIdValue sets
    → IsStrictlyIncreasing (numbers_of documents) → IsStrictlyIncreasing numbers → ((n : ℕ) → Contains numbers n ↔ IsMatch documents sets n)
    → numbers ≡ filter (meets documents sets) (numbers_of documents)
matching_numbers documents sets numbers are rising increasing exact =
    let test = meets documents sets in
    same_climbing numbers (filter test (numbers_of documents)) (climbs numbers increasing)
    (climbs (filter test (numbers_of documents)) (IsStrictlyIncreasing-filter test (numbers_of documents) rising))
    (λ n here.
    let is : IsMatch documents sets n = (exact n).0 (in_to n numbers here) in
    in_filter test n (numbers_of documents) (there_in (MeetsAll sets) n documents is) ((some_matches-Decides sets are (document_at n documents)).1 is))
    (λ n here.
    in_from n numbers ((exact n).1 ((some_matches-Decides sets are (document_at n documents)).0 (passes_filter test n (numbers_of documents) here))))

-- each document is found by its number
abbrev AreFound : List (ℕ × Stored) → List (ℕ × Stored) → Type 0
AreFound all docs = AllByRecursion (λ d. document_at d.0 all ≡ Some d.1) docs

found_behind : (first : ℕ × Stored) (all docs : List (ℕ × Stored)) → Over first.0 docs → AreFound all docs → AreFound (first ∷ all) docs
found_behind first all [] over found = tt
found_behind first all (d ∷ docs) over found = (
  ap (λ b. cond b (Some first.1) (document_at d.0 all)) (ne_false d.0 first.0 (λ same. let less = over.0 in omega arith)) ∙ found.0,
  found_behind first all docs over.1 found.1,
)

all_found : (docs : List (ℕ × Stored)) → Rises docs → AreFound docs docs
all_found [] rises = tt
all_found (d ∷ docs) rises = (
  ap (λ b. cond b (Some d.1) (document_at d.0 docs)) (eq-eqb d.0 d.0 refl),
  found_behind d docs docs rises.0 (all_found docs rises.1),
)

module _ (all : List (ℕ × Stored)) (sets : List TermSet) where
  pick_one : (d : ℕ × Stored) (rest : List ℕ) (others : List Stored) → document_at d.0 all ≡ Some d.1 → picked all rest ≡ others
      → (b : Bool) → picked all (cond b (d.0 ∷ rest) rest) ≡ cond b (d.1 ∷ others) others
  pick_one d rest others found same true = ap₂ (λ one more. option_to_list one ++ more) found same
  pick_one d rest others found same false = same

  picked_matches : (docs : List (ℕ × Stored)) → AreFound all docs
      → picked all (filter (meets all sets) (numbers_of docs)) ≡ filter (matches sets) (docs_in docs)
  picked_matches [] found = refl
  picked_matches (d ∷ docs) found =
      let rest : List ℕ = filter (meets all sets) (numbers_of docs) in
      ap (λ b. picked all (cond b (d.0 ∷ rest) rest)) (ap (some_matches sets) found.0)
      ∙ pick_one d rest (filter (matches sets) (docs_in docs)) found.0 (picked_matches docs found.1) (matches sets d.1)

  head_one : (n : ℕ) (rest : List ℕ) (first : Option ℕ) → slice_get rest 0 ≡ first → (b : Bool) → slice_get (cond b (n ∷ rest) rest) 0 ≡ cond b (Some n) first
  head_one n rest first same true = refl
  head_one n rest first same false = same

  first_matches : (docs : List (ℕ × Stored)) → AreFound all docs
      → slice_get (filter (meets all sets) (numbers_of docs)) 0 ≡ first_of (matches sets) docs
  first_matches [] found = refl
  first_matches (d ∷ docs) found =
      let rest : List ℕ = filter (meets all sets) (numbers_of docs) in
      ap (λ b. slice_get (cond b (d.0 ∷ rest) rest) 0) (ap (some_matches sets) found.0)
      ∙ head_one d.0 rest (first_of (matches sets) docs) (first_matches docs found.1) (matches sets d.1)

module _ (documents : List (ℕ × Stored)) (sets : List TermSet) (numbers : List ℕ) (are : AllByRecursion HasIdValue sets)
    (rising : IsStrictlyIncreasing (map (λ d. d.0) documents)) (increasing : IsStrictlyIncreasing numbers)
    (exact : (n : ℕ) → Contains numbers n ↔ IsMatch documents sets n) where
  pub are_matches : AreMatches documents sets numbers
  are_matches =
      ap (picked documents) (matching_numbers documents sets numbers are rising increasing exact)
      ∙ picked_matches documents sets documents (all_found documents (rises documents rising))

  pub first_match : FirstMatch documents sets (slice_get numbers 0)
  first_match =
      subst (FirstOf (matches sets) documents)
      (sym (ap (λ all. slice_get all 0) (matching_numbers documents sets numbers are rising increasing exact) ∙ first_matches documents sets documents (all_found documents (rises documents rising))))
      (first_is (matches sets) documents (rises documents rising))

-- of an answer that is known by two facts
pub both_ok : {X E : Type 0} (P Q R : X → Type 0) → ((x : X) → P x → Q x → R x) → (answer : Result X E) → IfOk answer P → IfOk answer Q → IfOk answer R
both_ok P Q R both (Ok x) p q = both x p q
both_ok P Q R both (Err e) p q = tt
