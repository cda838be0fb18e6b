-- The pass over a document: elements that are filled into slots one by one fill them as look-ups by name would.
use Rattle.std.proofs.Common.{◌≡◌, ℕ, suc, ◌+◌, Bool, true, false, ◌||◌, List, [], ◌∷◌, ◌++◌, length, refl, ap, sym, ◌∙◌, inl, inr, arith, if◌then◌else◌, subst, Option, None, Some, Result, Ok, Err, append_assoc, length-append}
use Rattle.std.specs.Prelude.{bytes_eq, replicate, slice_set}
use Rattle.std.proofs.Math.Seq.{set-append_seam}
use Rattle.std.proofs.lemmas.List.{length-replicate}
use Rattle.std.proofs.lemmas.Bool.{cases_Bool, cond-true, cond-false}
use Rattle.std.proofs.lemmas.Slice.Eq.{bytes_eq-Decides}
use Rattle.qe_document.specs.Names.{Distinct, is_named, value_named}
use Rattle.qe_value.specs.declared.value.Plain.{Plain}
use Rattle.qe_layout.specs.declared.malformed.Kind.{Kind}
use Rattle.qe_layout.specs.declared.malformed.Malformed.{Malformed}
use Rattle.qe_layout.specs.Refusal.{Refusal, Reads, bind, map_read}
use Rattle.qe_layout.specs.Layouts.{Element, Reader, Rows, checked, lack, complete, part_in, slot, slots_of, arranged, place_from}
use Rattle.qe_layout.proofs.Pass.{with_slot, filled, complete_in}

-- two steps that pass
pub read_both : {A : Type 0} (read : Result A Refusal) (rest : Result (Unit {0}) Refusal) → bind read (λ _. rest) ≡ Ok tt → ((part : A) × (read ≡ Ok part)) × (rest ≡ Ok tt)
read_both (Ok part) rest is = ((part, refl), is)
read_both (Err refusal) rest is = absurd (cc)

pub bytes_eq-sym : (xs ys : List ℕ) → bytes_eq xs ys ≡ bytes_eq ys xs
bytes_eq-sym xs ys = by_tests (bytes_eq xs ys) (bytes_eq ys xs) refl refl
  where
    by_tests : (a b : Bool) → bytes_eq xs ys ≡ a → bytes_eq ys xs ≡ b → bytes_eq xs ys ≡ bytes_eq ys xs
    by_tests true b is other = is ∙ sym ((bytes_eq-Decides ys xs).1 (sym ((bytes_eq-Decides xs ys).0 is)))
    by_tests false true is other = (bytes_eq-Decides xs ys).1 (sym ((bytes_eq-Decides ys xs).0 other)) ∙ sym other
    by_tests false false is other = is ∙ sym other

-- a part is put into the slot of the row with the name
abbrev placed : {A : Type 0} → List ℕ → Option A → Rows → List (Option A) → List (Option A)
placed name part [] slots = slots
placed name part (row ∷ rows) [] = []
placed name part (row ∷ rows) (s ∷ slots) = if bytes_eq name row.0 then part ∷ slots else s ∷ placed name part rows slots

placed-at : {A : Type 0} (name : List ℕ) (part : Option A) (rows : Rows) (front slots : List (Option A)) (i : ℕ) → length front ≡ i → length slots ≡ length rows
    → with_slot (place_from name i rows) part (front ++ slots) ≡ front ++ placed name part rows slots
placed-at name part [] front slots i at same = refl
placed-at name part (row ∷ rows) front [] i at same = absurd (omega arith)
placed-at name part (row ∷ rows) front (s ∷ slots) i at same =
    elim (bytes_eq name row.0) as (λ b. with_slot (if b then Some i else place_from name (i + 1) rows) part (front ++ s ∷ slots) ≡ front ++ (if b then part ∷ slots else s ∷ placed name part rows slots)) [
      | true ↦ ap (λ n. slice_set (front ++ s ∷ slots) n part) (sym at) ∙ set-append_seam front s slots part
      | false ↦
          ap (with_slot (place_from name (i + 1) rows) part) (sym (append_assoc front (s ∷ []) slots))
          ∙ placed-at name part rows (front ++ s ∷ []) slots (i + 1) (length-append front (s ∷ []) ∙ ap (λ n. n + 1) at) (omega arith)
          ∙ append_assoc front (s ∷ []) (placed name part rows slots)
    ]

length-placed : {A : Type 0} (name : List ℕ) (part : Option A) (rows : Rows) (slots : List (Option A)) → length (placed name part rows slots) ≡ length slots
length-placed name part [] slots = refl
length-placed name part (row ∷ rows) [] = refl
length-placed name part (row ∷ rows) (s ∷ slots) =
    elim (bytes_eq name row.0) as (λ b. length (if b then part ∷ slots else s ∷ placed name part rows slots) ≡ suc (length slots)) [
      | true ↦ refl
      | false ↦ ap (λ n. suc n) (length-placed name part rows slots)
    ]

-- a name without a row leaves all slots
unplaced : {A : Type 0} (name : List ℕ) (part : Option A) (rows : Rows) (slots : List (Option A)) → is_named name rows ≡ false → placed name part rows slots ≡ slots
unplaced name part [] slots new = refl
unplaced name part (row ∷ rows) [] new = refl
unplaced name part (row ∷ rows) (s ∷ slots) new = by_test (unplaced name part rows slots) (bytes_eq name row.0) new
  where
    by_test : (is_named name rows ≡ false → placed name part rows slots ≡ slots) → (b : Bool) → (b || is_named name rows) ≡ false → (if b then part ∷ slots else s ∷ placed name part rows slots) ≡ s ∷ slots
    by_test next true wrong = absurd (cc)
    by_test next false rest = ap (λ more. s ∷ more) (next rest)

-- all elements, one after another
abbrev poured : {A : Type 0} → Reader A → Rows → List Element → List (Option A) → List (Option A)
poured reads rows [] slots = slots
poured reads rows (e ∷ elements) slots = poured reads rows elements (placed e.0 (part_in (reads e.0 e.1)) rows slots)

filled-poured : {A : Type 0} (reads : Reader A) (rows : Rows) (elements : List Element) (slots : List (Option A)) → length slots ≡ length rows
    → filled reads rows elements slots ≡ bind (checked reads elements) (λ _. Ok (poured reads rows elements slots))
filled-poured reads rows [] slots same = refl
filled-poured reads rows (e ∷ elements) slots same =
    elim (reads e.0 e.1) as (λ read. bind (map_read (λ part. with_slot (place_from e.0 0 rows) (Some part) slots) read) (λ next. filled reads rows elements next)
    ≡ bind (bind read (λ _. checked reads elements)) (λ _. Ok (poured reads rows elements (placed e.0 (part_in read) rows slots)))) [
      | Err refusal ↦ refl
      | Ok part ↦
          ap (λ next. filled reads rows elements next) (placed-at e.0 (Some part) rows [] slots 0 refl same)
          ∙ filled-poured reads rows elements (placed e.0 (Some part) rows slots) (length-placed e.0 (Some part) rows slots ∙ same)
    ]

-- what the last element of a name leaves in a slot
abbrev latest : {A : Type 0} → Reader A → List ℕ → List Element → Option A → Option A
latest reads name [] s = s
latest reads name (e ∷ elements) s = if bytes_eq name e.0 then latest reads name elements (part_in (reads e.0 e.1)) else latest reads name elements s

latest-new : {A : Type 0} (reads : Reader A) (name : List ℕ) (elements : List Element) (s : Option A) → is_named name elements ≡ false → latest reads name elements s ≡ s
latest-new reads name [] s new = refl
latest-new reads name (e ∷ elements) s new = by_test (latest-new reads name elements s) (bytes_eq name e.0) new
  where
    by_test : (is_named name elements ≡ false → latest reads name elements s ≡ s) → (b : Bool) → (b || is_named name elements) ≡ false → (if b then latest reads name elements (part_in (reads e.0 e.1)) else latest reads name elements s) ≡ s
    by_test next true wrong = absurd (cc)
    by_test next false rest = next rest

latest-slot : {A : Type 0} (reads : Reader A) (name : List ℕ) (elements : List Element) → Distinct elements
    → latest reads name elements None ≡ slot reads name (value_named name elements)
latest-slot reads name [] distinct = refl
latest-slot {A} reads name (e ∷ elements) distinct =
    elim (cases_Bool (bytes_eq name e.0)) [
      | inl same ↦
          let is : name ≡ e.0 = (bytes_eq-Decides name e.0).0 same in
          let new : is_named name elements ≡ false = ap (λ n. is_named n elements) is ∙ distinct.0 in
          cond-true (bytes_eq name e.0) (latest reads name elements (part_in (reads e.0 e.1))) (latest reads name elements None) same
          ∙ latest-new reads name elements (part_in (reads e.0 e.1)) new
          ∙ ap (λ n. part_in (reads n e.1)) (sym is)
          ∙ ap (slot reads name) (sym (cond-true (bytes_eq name e.0) (Some e.1) (value_named name elements) same))
      | inr other ↦
          cond-false (bytes_eq name e.0) (latest reads name elements (part_in (reads e.0 e.1))) (latest reads name elements None) other
          ∙ latest-slot reads name elements distinct.1
          ∙ ap (slot reads name) (sym (cond-false (bytes_eq name e.0) (Some e.1) (value_named name elements) other))
    ]

-- the first row's slot is filled by itself
poured-first : {A : Type 0} (reads : Reader A) (row : List ℕ × Option Kind) (rows : Rows) (elements : List Element) (s : Option A) (slots : List (Option A))
    → is_named row.0 rows ≡ false → poured reads (row ∷ rows) elements (s ∷ slots) ≡ latest reads row.0 elements s ∷ poured reads rows elements slots
poured-first reads row rows [] s slots new = refl
poured-first {A} reads row rows (e ∷ elements) s slots new =
    ap (λ b. poured reads (row ∷ rows) elements (if b then part_in (reads e.0 e.1) ∷ slots else s ∷ placed e.0 (part_in (reads e.0 e.1)) rows slots)) (bytes_eq-sym e.0 row.0)
    ∙ elim (cases_Bool (bytes_eq row.0 e.0)) [
      | inl same ↦
          let is : row.0 ≡ e.0 = (bytes_eq-Decides row.0 e.0).0 same in
          let part = part_in (reads e.0 e.1) in
          let left : placed e.0 part rows slots ≡ slots = unplaced e.0 part rows slots (ap (λ n. is_named n rows) (sym is) ∙ new) in
          ap (poured reads (row ∷ rows) elements) (cond-true (bytes_eq row.0 e.0) (part ∷ slots) (s ∷ placed e.0 part rows slots) same)
          ∙ poured-first reads row rows elements part slots new
          ∙ ap (λ first. first ∷ poured reads rows elements slots) (sym (cond-true (bytes_eq row.0 e.0) (latest reads row.0 elements part) (latest reads row.0 elements s) same))
          ∙ ap (λ next. (if bytes_eq row.0 e.0 then latest reads row.0 elements part else latest reads row.0 elements s) ∷ poured reads rows elements next) (sym left)
      | inr other ↦
          let part = part_in (reads e.0 e.1) in
          ap (poured reads (row ∷ rows) elements) (cond-false (bytes_eq row.0 e.0) (part ∷ slots) (s ∷ placed e.0 part rows slots) other)
          ∙ poured-first reads row rows elements s (placed e.0 part rows slots) new
          ∙ ap (λ first. first ∷ poured reads rows elements (placed e.0 part rows slots)) (sym (cond-false (bytes_eq row.0 e.0) (latest reads row.0 elements part) (latest reads row.0 elements s) other))
    ]

poured-none : {A : Type 0} (reads : Reader A) (elements : List Element) → poured reads [] elements [] ≡ []
poured-none reads [] = refl
poured-none reads (e ∷ elements) = poured-none reads elements

poured-slots : {A : Type 0} (reads : Reader A) (rows : Rows) (elements : List Element) → Distinct rows → Distinct elements
    → poured reads rows elements (replicate (length rows) None) ≡ slots_of reads rows elements
poured-slots reads [] elements apart distinct = poured-none reads elements
poured-slots {A} reads (row ∷ rows) elements apart distinct =
    poured-first reads row rows elements None (replicate (length rows) None) apart.0
    ∙ ap (λ first. first ∷ poured reads rows elements (replicate (length rows) None)) (latest-slot reads row.0 elements distinct)
    ∙ ap (λ rest. slot reads row.0 (value_named row.0 elements) ∷ rest) (poured-slots reads rows elements apart.1 distinct)

-- a value that is found is read, where all are
pub checked-found : {A : Type 0} (reads : Reader A) (name : List ℕ) (elements : List Element) (value : Plain) → checked reads elements ≡ Ok tt → value_named name elements ≡ Some value
    → (part : A) × (reads name value ≡ Ok part)
checked-found reads name [] value clean found = absurd (cc)
checked-found {A} reads name (e ∷ elements) value clean found =
    let both = read_both (reads e.0 e.1) (checked reads elements) clean in
    elim (cases_Bool (bytes_eq name e.0)) [
      | inl same ↦
          let is : Some e.1 ≡ Some value = sym (cond-true (bytes_eq name e.0) (Some e.1) (value_named name elements) same) ∙ found in
          let value_is : e.1 ≡ value = cc in
          (both.0.0, ap (reads name) (sym value_is) ∙ ap (λ n. reads n e.1) ((bytes_eq-Decides name e.0).0 same) ∙ both.0.1)
      | inr other ↦
          checked-found reads name elements value both.1 (sym (cond-false (bytes_eq name e.0) (Some e.1) (value_named name elements) other) ∙ found)
    ]

-- slots lack what elements lack
complete-slots : {A : Type 0} (reads : Reader A) (rows : Rows) (elements : List Element) → checked reads elements ≡ Ok tt
    → complete_in rows (slots_of reads rows elements) ≡ complete rows elements
complete-slots reads [] elements clean = refl
complete-slots {A} reads (row ∷ rows) elements clean =
    ap (λ first. bind first (λ _. complete_in rows (slots_of reads rows elements))) (by_value (value_named row.0 elements) refl)
    ∙ ap (λ rest. bind (lack row.0 row.1 (value_named row.0 elements)) (λ _. rest)) (complete-slots reads rows elements clean)
  where
    by_value : (found : Option Plain) → value_named row.0 elements ≡ found → lack row.0 row.1 (slot reads row.0 found) ≡ lack row.0 row.1 found
    by_value None is = refl
    by_value (Some value) is =
        let read = checked-found reads row.0 elements value clean is in
        ap (λ r. lack row.0 row.1 (part_in r)) read.1

-- the pass fills the slots as look-ups by name would
pub filled-slots : {A : Type 0} (reads : Reader A) (rows : Rows) (elements : List Element) → Distinct rows → Distinct elements
    → filled reads rows elements (replicate (length rows) None) ≡ bind (checked reads elements) (λ _. Ok (slots_of reads rows elements))
filled-slots reads rows elements apart distinct =
    filled-poured reads rows elements (replicate (length rows) None) (length-replicate (length rows) None)
    ∙ ap (λ slots. bind (checked reads elements) (λ _. Ok slots)) (poured-slots reads rows elements apart distinct)

-- what the slots of a document lack, it lacks
pub tells-complete : {A : Type 0} (reads : Reader A) (rows : Rows) (slots : List (Option A)) (elements : List Element) (result : Result (Unit {0}) Malformed)
    → slots ≡ slots_of reads rows elements → checked reads elements ≡ Ok tt → Reads result (complete_in rows slots) → Reads result (complete rows elements)
tells-complete reads rows slots elements result filled clean tells =
    subst (λ (due : Result (Unit {0}) Refusal). Reads result due) (ap (complete_in rows) filled ∙ complete-slots reads rows elements clean) tells

-- the elements of what was filled are read, and the slots are theirs
pub filled-both : {S : Type 0} (clean : Result (Unit {0}) Refusal) (due slots : S) → bind clean (λ _. Ok due) ≡ Ok slots → (clean ≡ Ok tt) × (slots ≡ due)
filled-both (Ok _) due slots is = (refl, cc)
filled-both (Err refusal) due slots is = absurd (cc)

pub arranged-ok : {A : Type 0} (reads : Reader A) (rows : Rows) (elements : List Element) (slots : List (Option A)) → checked reads elements ≡ Ok tt → complete rows elements ≡ Ok tt
    → slots ≡ slots_of reads rows elements → arranged reads rows elements ≡ Ok slots
arranged-ok reads rows elements slots clean full is = rw (clean, full, is) refl

-- the slots of what is arranged
pub arranged-slots : {A : Type 0} (reads : Reader A) (rows : Rows) (elements : List Element) (slots : List (Option A)) → arranged reads rows elements ≡ Ok slots
    → slots ≡ slots_of reads rows elements
arranged-slots {A} reads rows elements slots is = by_steps (checked reads elements) (complete rows elements) is
  where
    by_steps : (clean full : Result (Unit {0}) Refusal) → bind clean (λ _. bind full (λ _. Ok (slots_of reads rows elements))) ≡ Ok slots → slots ≡ slots_of reads rows elements
    by_steps (Err refusal) full is = absurd (cc)
    by_steps (Ok _) (Err refusal) is = absurd (cc)
    by_steps (Ok _) (Ok _) is = cc
