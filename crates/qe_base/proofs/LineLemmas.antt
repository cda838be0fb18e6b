-- Lists cut at the first element that passes a test, and the lines of a text.
use Rattle.std.proofs.Common.{◌≡◌, ◌≤◌, ℕ, ◌+◌, ◌==◌, List, [], ◌∷◌, Bool, true, false, not, cond, Option, Some, None, length, take, drop, refl, ap, ◌∙◌, arith, subst}
use Rattle.std.specs.List.{slice_split, position, position_or_len, onto_first, enumerate_from}
use Rattle.std.proofs.lemmas.List.Splits.{slice_split_first}
use Rattle.std.proofs.lemmas.Bool.{ltb-true, ltb-false}
use Rattle.std.specs.Prelude.{nat_lt}
use Rattle.qe_base.specs.Bytes.{lines_of}
use Rattle.qe_base.specs.Lines.{lines_left}

-- what stands before the first element that passes is the first part
pub slice_split_at_position : (p : ℕ → Bool) (xs : List ℕ) (end : ℕ) → position p xs ≡ Some end
    → slice_split p xs ≡ take end xs ∷ slice_split p (drop (end + 1) xs)
slice_split_at_position p xs end found = by_test (nat_lt (position_or_len p xs) (length xs)) refl found
  where
    by_test : (within : Bool) → nat_lt (position_or_len p xs) (length xs) ≡ within → cond within (Some (position_or_len p xs)) None ≡ Some end
        → slice_split p xs ≡ take end xs ∷ slice_split p (drop (end + 1) xs)
    by_test true within e =
        let here : position_or_len p xs ≡ end = cc in
        let P : ℕ → Type 0 = λ k. slice_split p xs ≡ take k xs ∷ slice_split p (drop (k + 1) xs) in
        subst P here (slice_split_first p xs 0 (ltb-true _ _ within))
    by_test false within e = cc

-- where none passes there is one part
all_one : (p : ℕ → Bool) (xs : List ℕ) → length xs ≤ position_or_len p xs → slice_split p xs ≡ xs ∷ []
all_one p [] none = refl
all_one p (x ∷ xs) none = by_test (p x) refl (all_one p xs) none
  where
    by_test : (passes : Bool) → p x ≡ passes → (length xs ≤ position_or_len p xs → slice_split p xs ≡ xs ∷ [])
        → length (x ∷ xs) ≤ cond (not passes) (1 + position_or_len p xs) 0
        → cond passes ([] ∷ slice_split p xs) (onto_first x (slice_split p xs)) ≡ (x ∷ xs) ∷ []
    by_test true passes rest none = absurd (omega arith)
    by_test false passes rest none = rw (rest (omega arith))

pub slice_split_whole : (p : ℕ → Bool) (xs : List ℕ) → position p xs ≡ None → slice_split p xs ≡ xs ∷ []
slice_split_whole p xs none = by_test (nat_lt (position_or_len p xs) (length xs)) refl none
  where
    by_test : (within : Bool) → nat_lt (position_or_len p xs) (length xs) ≡ within → cond within (Some (position_or_len p xs)) None ≡ None
        → slice_split p xs ≡ xs ∷ []
    by_test true within e = cc
    by_test false within e = all_one p xs (ltb-false _ _ within)

-- the first of the lines that are left
pub first_of_more : (passed end : ℕ) (left : Option (List ℕ)) (text rest : List ℕ) → left ≡ Some text → position (λ byte. byte == 10) text ≡ Some end
    → drop (end + 1) text ≡ rest → enumerate_from passed (lines_left left) ≡ (passed, take end text) ∷ enumerate_from (passed + 1) (lines_of rest)
first_of_more passed end left text rest is found behind =
    rw is (ap (enumerate_from passed) (slice_split_at_position (λ byte. byte == 10) text end found ∙ ap (λ later. take end text ∷ lines_of later) behind))

pub first_of_one : (passed : ℕ) (left : Option (List ℕ)) (text : List ℕ) → left ≡ Some text → position (λ byte. byte == 10) text ≡ None
    → enumerate_from passed (lines_left left) ≡ (passed, text) ∷ []
first_of_one passed left text is none = rw is (ap (enumerate_from passed) (slice_split_whole (λ byte. byte == 10) text none))
