-- Where a number stands among documents in rising number.
use Rattle.std.proofs.Common.{◌≡◌, ℕ, zero, suc, ◌<◌, ◌≤◌, Bool, true, false, cond, not, nat_eq, List, [], ◌∷◌, length, get_or, set, map, ◌+◌, None, Some, Result, Ok, Err, refl, sym, ◌∙◌, ap, subst, arith}
use Rattle.std.specs.List.{remove}
use Rattle.std.proofs.lemmas.List.{get_or-map, length-map}
use Rattle.std.specs.List.Sorted.{IsStrictlyIncreasing, IsSearchInRange, IsBinarySearchResult, IsNonDecreasingBy}
use Rattle.std.specs.Ordering.{nat_cmp, ordering_index}
use Rattle.std.specs.Result.{result_ok}
use Rattle.std.proofs.lemmas.Bool.{eq-eqb}
use Rattle.std.proofs.lemmas.Bool.Decides.{nat_tests}
use Rattle.std.proofs.lemmas.Cmp.{ranked}
use Rattle.std.proofs.lemmas.List.Sorted.{IsNonDecreasingBy-from_default}
use Rattle.qe_value.specs.declared.value.Value.TheVariants.{Null}
use Rattle.qe_store.specs.declared.stored.Stored.{Stored}
use Rattle.qe_store.specs.Kept.{document_at, with_new, without}
use Rattle.qe_store.specs.Parts.{Above, Rising, IsPlace}
use Rattle.qe_store.proofs.HoldLemmas.{ne_false, above_other}

-- the document that is read past the end
abbrev nothing : ℕ × Stored
nothing = (0, record { id = Null; cells = []; tags = [] })

abbrev key_at : List (ℕ × Stored) → ℕ → ℕ
key_at docs i = (get_or docs i nothing).0

above_at : (n : ℕ) (docs : List (ℕ × Stored)) → Above n docs → (j : ℕ) (d : ℕ × Stored) → j < length docs → n < (get_or docs j d).0
above_at n [] a j d lt = absurd (omega arith)
above_at n (x ∷ docs) a zero d lt = a.0
above_at n (x ∷ docs) a (suc j) d lt = above_at n docs a.1 j d (omega arith)

rising_at : (docs : List (ℕ × Stored)) → Rising docs → (i j : ℕ) (d : ℕ × Stored) → i < j → j < length docs → (get_or docs i d).0 < (get_or docs j d).0
rising_at [] r i j d lt in_range = absurd (omega arith)
rising_at (x ∷ docs) r i zero d lt in_range = absurd (omega arith)
rising_at (x ∷ docs) r zero (suc j) d lt in_range = above_at x.0 docs r.0 j d (omega arith)
rising_at (x ∷ docs) r (suc i) (suc j) d lt in_range = rising_at docs r.1 i j d (omega arith) (omega arith)

-- a number that stands nowhere
absent : (docs : List (ℕ × Stored)) (k : ℕ) (d : ℕ × Stored) → ((j : ℕ) → j < length docs → (get_or docs j d).0 ≡ k → ⊥) → document_at k docs ≡ None
absent [] k d h = refl
absent (x ∷ docs) k d h =
    let far : nat_eq k x.0 ≡ false = ne_false k x.0 (λ e. h 0 (omega arith) (sym e)) in
    ap (λ b. cond b (Some x.1) (document_at k docs)) far ∙ absent docs k d (λ j lt. h (suc j) (omega arith))

-- a number that stands at a place
pub at_place : (docs : List (ℕ × Stored)) → Rising docs → (k at : ℕ) (d : ℕ × Stored) → at < length docs → (get_or docs at d).0 ≡ k → document_at k docs ≡ Some (get_or docs at d).1
at_place [] r k at d lt e = absurd (omega arith)
at_place (x ∷ docs) r k zero d lt e = ap (λ b. cond b (Some x.1) (document_at k docs)) (eq-eqb k x.0 (sym e))
at_place (x ∷ docs) r k (suc at) d lt e =
    let above : x.0 < (get_or docs at d).0 = above_at x.0 docs r.0 at d (omega arith) in
    let far : nat_eq k x.0 ≡ false = ne_false k x.0 (λ same. omega arith) in
    ap (λ b. cond b (Some x.1) (document_at k docs)) far ∙ at_place docs r.1 k at d (omega arith) e

-- writing over the document at its place
pub set_with : (docs : List (ℕ × Stored)) → Rising docs → (m at : ℕ) (s : Stored) (d : ℕ × Stored) → at < length docs → (get_or docs at d).0 ≡ m → set docs at (m, s) ≡ with_new m s docs
set_with [] r m at s d lt e = absurd (omega arith)
set_with (x ∷ docs) r m zero s d lt e =
    ap (λ rest. (m, s) ∷ rest) (sym (above_other m s docs (subst (λ k. Above k docs) e r.0)))
    ∙ ap (λ k. (k, s) ∷ with_new m s docs) (sym e)
    ∙ ap (λ b. cond b (x.0, s) x ∷ with_new m s docs) (sym (eq-eqb m x.0 (sym e)))
set_with (x ∷ docs) r m (suc at) s d lt e =
    let above : x.0 < (get_or docs at d).0 = above_at x.0 docs r.0 at d (omega arith) in
    let far : nat_eq m x.0 ≡ false = ne_false m x.0 (λ same. omega arith) in
    ap (λ rest. x ∷ rest) (set_with docs r.1 m at s d (omega arith) e) ∙ ap (λ b. cond b (x.0, s) x ∷ with_new m s docs) (sym far)

-- taking the document at its place out
above_stays : (m : ℕ) (docs : List (ℕ × Stored)) → Above m docs → without m docs ≡ docs
above_stays m [] a = refl
above_stays m (x ∷ docs) a =
    let far : nat_eq m x.0 ≡ false = ne_false m x.0 (λ e. let lt = a.0 in omega arith) in
    ap (λ b. cond (not b) (x ∷ without m docs) (without m docs)) far ∙ ap (λ rest. x ∷ rest) (above_stays m docs a.1)

pub remove_at : (docs : List (ℕ × Stored)) → Rising docs → (m at : ℕ) (d : ℕ × Stored) → at < length docs → (get_or docs at d).0 ≡ m → remove docs at ≡ without m docs
remove_at [] r m at d lt e = absurd (omega arith)
remove_at (x ∷ docs) r m zero d lt e =
    sym (above_stays m docs (subst (λ k. Above k docs) e r.0))
    ∙ ap (λ b. cond (not b) (x ∷ without m docs) (without m docs)) (sym (eq-eqb m x.0 (sym e)))
remove_at (x ∷ docs) r m (suc at) d lt e =
    let above : x.0 < (get_or docs at d).0 = above_at x.0 docs r.0 at d (omega arith) in
    let far : nat_eq m x.0 ≡ false = ne_false m x.0 (λ same. omega arith) in
    ap (λ rest. x ∷ rest) (remove_at docs r.1 m at d (omega arith) e) ∙ ap (λ b. cond (not b) (x ∷ without m docs) (without m docs)) (sym far)

pub none_without : (docs : List (ℕ × Stored)) (m : ℕ) → document_at m docs ≡ None → docs ≡ without m docs
none_without [] m e = refl
none_without (x ∷ docs) m e = step (nat_eq m x.0) refl (none_without docs m)
  where
    no : Some x.1 ≡ None → ⊥
    no e = cc

    step : (b : Bool) → nat_eq m x.0 ≡ b → (document_at m docs ≡ None → docs ≡ without m docs) → x ∷ docs ≡ without m (x ∷ docs)
    step true is rest = absurd (no (sym (ap (λ b. cond b (Some x.1) (document_at m docs)) is) ∙ e))
    step false is rest = ap (λ more. x ∷ more) (rest (sym (ap (λ b. cond b (Some x.1) (document_at m docs)) is) ∙ e)) ∙ ap (λ b. cond (not b) (x ∷ without m docs) (without m docs)) (sym is)

pub with_length : (m : ℕ) (s : Stored) (docs : List (ℕ × Stored)) → length (with_new m s docs) ≡ length docs
with_length m s [] = refl
with_length m s (x ∷ docs) = let rest = with_length m s docs in omega arith

-- and where there is none, nothing is written
pub none_with : (docs : List (ℕ × Stored)) (m : ℕ) (s : Stored) → document_at m docs ≡ None → docs ≡ with_new m s docs
none_with [] m s e = refl
none_with (x ∷ docs) m s e = step (nat_eq m x.0) refl (none_with docs m s)
  where
    no : Some x.1 ≡ None → ⊥
    no e = cc

    step : (b : Bool) → nat_eq m x.0 ≡ b → (document_at m docs ≡ None → docs ≡ with_new m s docs) → x ∷ docs ≡ with_new m s (x ∷ docs)
    step true is rest = absurd (no (sym (ap (λ b. cond b (Some x.1) (document_at m docs)) is) ∙ e))
    step false is rest = ap (λ more. x ∷ more) (rest (sym (ap (λ b. cond b (Some x.1) (document_at m docs)) is) ∙ e)) ∙ ap (λ b. cond b (x.0, s) x ∷ with_new m s docs) (sym is)

module _ (docs : List (ℕ × Stored)) (rising : Rising docs) (k : ℕ) where
  comparisons_rise : IsNonDecreasingBy (λ (d : ℕ × Stored). ordering_index (nat_cmp d.0 k)) docs
  comparisons_rise = IsNonDecreasingBy-from_default (λ (d : ℕ × Stored). ordering_index (nat_cmp d.0 k)) docs nothing (λ i j le in_range.
      let keys_rise : key_at docs i ≤ key_at docs j = grind (arith, rising_at docs rising i j nothing, λ (same : i ≡ j). ap (key_at docs) same) in
      grind (arith, nat_tests))

  -- a search by halving ends at the number, or where it is missing
  pub searched : (r : Result ℕ ℕ) → IsSearchInRange r (length docs) → IsBinarySearchResult (λ (d : ℕ × Stored). nat_cmp d.0 k) docs r → IsPlace docs k (result_ok r)
  searched (Ok at) in_range equal = (in_range, λ d. ranked _ k _ (sym (equal d)))
  searched (Err at) in_range parted = absent docs k nothing (λ j lt same. grind (arith, smaller j, greater j))
    where
      smaller : (j : ℕ) → j < at → key_at docs j < k
      smaller j lt = ranked _ k _ (sym ((parted comparisons_rise).0 j nothing (omega arith) lt))

      greater : (j : ℕ) → at ≤ j → j < length docs → k < key_at docs j
      greater j le lt = ranked _ k _ (sym ((parted comparisons_rise).1 j nothing le lt))

pub rising_of_each : (docs : List (ℕ × Stored)) → Rising docs → IsStrictlyIncreasing (map (λ d. d.0) docs)
rising_of_each docs rising k within =
    let inside : k + 1 < length docs = omega (arith, within, length-map docs (λ (d : ℕ × Stored). d.0)) in
    let below = rising_at docs rising k (k + 1) nothing (omega arith) inside in
    omega (arith, below, get_or-map (λ (d : ℕ × Stored). d.0) docs k nothing 0 (omega arith), get_or-map (λ (d : ℕ × Stored). d.0) docs (k + 1) nothing 0 inside)
