-- Layouts, both ways: documents are read exactly where they are laid out.
use Rattle.std.proofs.Common.{◌≡◌, ℕ, Bool, true, false, ◌||◌, List, [], ◌∷◌, refl, ap, sym, ◌∙◌, inl, inr, if◌then◌else◌, Option, None, Some, Result, Ok, Err}
use Rattle.std.specs.Prelude.{bytes_eq}
use Rattle.std.proofs.lemmas.Bool.{cases_Bool, cond-true, cond-false}
use Rattle.std.proofs.lemmas.Slice.Eq.{bytes_eq-Decides}
use Rattle.qe_document.specs.Names.{Distinct, is_named, value_named}
use Rattle.qe_value.specs.declared.value.Plain.{Plain}
use Rattle.qe_layout.specs.declared.malformed.Kind.{Kind}
use Rattle.qe_layout.specs.Refusal.{Refusal, bind, map_read}
use Rattle.qe_layout.specs.Layouts.{Element, Reader, Rows, Row, rows_of, reads_of, checked, lack, complete, part_in, slot, slots_of, arranged, built}
use Rattle.qe_layout.specs.Layouts.{IsSlot, AreSlots, HasOnly, IsLaid, IsBuilt, Knows}
use Rattle.qe_layout.proofs.FillLemmas.{read_both, checked-found, arranged-slots}

-- what is arranged passed both tests
arranged-passes : {A : Type 0} (reads : Reader A) (rows : Rows) (elements : List Element) (slots : List (Option A)) → arranged reads rows elements ≡ Ok slots
    → (checked reads elements ≡ Ok tt) × (complete rows elements ≡ Ok tt)
arranged-passes {A} reads rows elements slots is = by_steps (checked reads elements) (complete rows elements) is
  where
    by_steps : (clean full : Result (Unit {0}) Refusal) → bind clean (λ _. bind full (λ _. Ok (slots_of reads rows elements))) ≡ Ok slots → (clean ≡ Ok tt) × (full ≡ Ok tt)
    by_steps (Err refusal) full is = absurd (cc)
    by_steps (Ok _) (Err refusal) is = absurd (cc)
    by_steps (Ok _) (Ok _) is = (refl, refl)

slot-is : {A : Type 0} (reads : Reader A) (elements : List Element) (row : List ℕ × Option Kind) → checked reads elements ≡ Ok tt
    → lack row.0 row.1 (value_named row.0 elements) ≡ Ok tt → IsSlot reads elements row (slot reads row.0 (value_named row.0 elements))
slot-is {A} reads elements row clean there = by_value (value_named row.0 elements) refl there
  where
    by_need : (need : Option Kind) → lack {V = Plain} row.0 need None ≡ Ok tt → need ≡ None
    by_need None there = refl
    by_need (Some kind) there = absurd (cc)

    by_value : (found : Option Plain) → value_named row.0 elements ≡ found → lack row.0 row.1 found ≡ Ok tt → IsSlot reads elements row (slot reads row.0 found)
    by_value None is there = (by_need row.1 there, is)
    by_value (Some value) is there =
        let read = checked-found reads row.0 elements value clean is in
        rw read.1 (value, (is, read.1))

slots-are : {A : Type 0} (reads : Reader A) (rows : Rows) (elements : List Element) → checked reads elements ≡ Ok tt → complete rows elements ≡ Ok tt
    → AreSlots reads elements rows (slots_of reads rows elements)
slots-are reads [] elements clean full = tt
slots-are reads (row ∷ rows) elements clean full =
    let both = two_both (lack row.0 row.1 (value_named row.0 elements)) (complete rows elements) full in
    (slot-is reads elements row clean both.0, slots-are reads rows elements clean both.1)
  where
    two_both : (one other : Result (Unit {0}) Refusal) → bind one (λ _. other) ≡ Ok tt → (one ≡ Ok tt) × (other ≡ Ok tt)
    two_both (Ok _) other is = (refl, is)
    two_both (Err refusal) other is = absurd (cc)

checked-only : {A : Type 0} (reads : Reader A) (rows : Rows) (elements : List Element) → Knows reads rows → checked reads elements ≡ Ok tt → HasOnly rows elements
checked-only reads rows [] knows clean = tt
checked-only reads rows (e ∷ elements) knows clean =
    let both = read_both (reads e.0 e.1) (checked reads elements) clean in
    (knows e.0 e.1 both.0.0 both.0.1, checked-only reads rows elements knows both.1)

-- the slots that a document is read into are those of its elements
pub arranged_slots : {A : Type 0} (reads : Reader A) (rows : Rows) (slots : List (Option A)) (elements : List Element) → arranged reads rows elements ≡ Ok slots
    → AreSlots reads elements rows slots
arranged_slots reads rows slots elements is =
    let passes = arranged-passes reads rows elements slots is in
    rw (arranged-slots reads rows elements slots is) (slots-are reads rows elements passes.0 passes.1)

-- a document that is read is laid out
pub arranged_laid : {A : Type 0} (reads : Reader A) (rows : Rows) (slots : List (Option A)) (elements : List Element) → Distinct elements → Knows reads rows
    → arranged reads rows elements ≡ Ok slots → IsLaid reads rows slots elements
arranged_laid reads rows slots elements distinct knows is =
    let passes = arranged-passes reads rows elements slots is in
    record {
      each = arranged_slots reads rows slots elements is;
      only = checked-only reads rows elements knows passes.0;
      distinct = distinct;
    }

-- what a row's slot tells of a name that is found
slot-reads : {A : Type 0} (reads : Reader A) (elements : List Element) (rows : Rows) (slots : List (Option A)) (name : List ℕ) (value : Plain)
    → AreSlots reads elements rows slots → is_named name rows ≡ true → value_named name elements ≡ Some value → (part : A) × (reads name value ≡ Ok part)
slot-reads reads elements [] slots name value each named found = absurd (cc)
slot-reads reads elements (row ∷ rows) [] name value each named found = absurd each
slot-reads {A} reads elements (row ∷ rows) (s ∷ slots) name value each named found =
    by_test (λ later. slot-reads reads elements rows slots name value each.1 later found) (bytes_eq name row.0) (bytes_eq-Decides name row.0).0 named
  where
    by_slot : (s : Option A) → IsSlot reads elements row s → value_named row.0 elements ≡ Some value → (part : A) × (reads row.0 value ≡ Ok part)
    by_slot None is found = let wrong : None ≡ Some value = sym is.1 ∙ found in absurd (cc)
    by_slot (Some part) is found =
        let same : Some is.0 ≡ Some value = sym is.1.0 ∙ found in
        let value_is : is.0 ≡ value = cc in
        (part, ap (reads row.0) (sym value_is) ∙ is.1.1)

    by_test : (is_named name rows ≡ true → (part : A) × (reads name value ≡ Ok part)) → (b : Bool) → (b ≡ true → name ≡ row.0) → (b || is_named name rows) ≡ true → (part : A) × (reads name value ≡ Ok part)
    by_test next true same named =
        let is : name ≡ row.0 = same refl in
        let here = by_slot s each.0 (ap (λ n. value_named n elements) (sym is) ∙ found) in
        (here.0, ap (λ n. reads n value) is ∙ here.1)
    by_test next false same named = next named

is_named-found : (name : List ℕ) (elements : List Element) (value : Plain) → value_named name elements ≡ Some value → is_named name elements ≡ true
is_named-found name [] value found = absurd (cc)
is_named-found name (e ∷ elements) value found = by_test (is_named-found name elements value) (bytes_eq name e.0) found
  where
    by_test : (value_named name elements ≡ Some value → is_named name elements ≡ true) → (b : Bool) → (if b then Some e.1 else value_named name elements) ≡ Some value → (b || is_named name elements) ≡ true
    by_test rest true found = refl
    by_test rest false found = rest found

only_name : (rows : Rows) (name : List ℕ) (elements : List Element) (value : Plain) → HasOnly rows elements → value_named name elements ≡ Some value → is_named name rows ≡ true
only_name rows name [] value only found = absurd (cc)
only_name rows name (e ∷ elements) value only found =
    elim (cases_Bool (bytes_eq name e.0)) [
      | inl same ↦ ap (λ n. is_named n rows) ((bytes_eq-Decides name e.0).0 same) ∙ only.0
      | inr other ↦ only_name rows name elements value only.1 (sym (cond-false (bytes_eq name e.0) (Some e.1) (value_named name elements) other) ∙ found)
    ]

-- elements of distinct names, each of which is read where it is found
found-checked : {A : Type 0} (reads : Reader A) (elements : List Element) → Distinct elements
    → ((name : List ℕ) (value : Plain) → value_named name elements ≡ Some value → (part : A) × (reads name value ≡ Ok part)) → checked reads elements ≡ Ok tt
found-checked reads [] distinct passes = refl
found-checked reads (e ∷ elements) distinct passes =
    let itself : bytes_eq e.0 e.0 ≡ true = (bytes_eq-Decides e.0 e.0).1 refl in
    let first = passes e.0 e.1 (cond-true (bytes_eq e.0 e.0) (Some e.1) (value_named e.0 elements) itself) in
    ap (λ read. bind read (λ _. checked reads elements)) first.1
    ∙ found-checked reads elements distinct.1 (λ name value found.
    elim (cases_Bool (bytes_eq name e.0)) [
      | inl same ↦
          let twice : is_named e.0 elements ≡ true =
          ap (λ n. is_named n elements) (sym ((bytes_eq-Decides name e.0).0 same)) ∙ is_named-found name elements value found in
          let wrong : true ≡ false = sym twice ∙ distinct.0 in
          absurd (cc)
      | inr other ↦ passes name value (cond-false (bytes_eq name e.0) (Some e.1) (value_named name elements) other ∙ found)
    ])

slots-complete : {A : Type 0} (reads : Reader A) (rows : Rows) (slots : List (Option A)) (elements : List Element) → AreSlots reads elements rows slots
    → (complete rows elements ≡ Ok tt) × (slots_of reads rows elements ≡ slots)
slots-complete reads [] [] elements each = (refl, refl)
slots-complete reads [] (s ∷ slots) elements each = absurd each
slots-complete reads (row ∷ rows) [] elements each = absurd each
slots-complete {A} reads (row ∷ rows) (s ∷ slots) elements each =
    let rest = slots-complete reads rows slots elements each.1 in
    let here = by_slot s each.0 in
    (ap (λ first. bind first (λ _. complete rows elements)) here.0 ∙ rest.0, ap (λ first. first ∷ slots_of reads rows elements) here.1 ∙ ap (λ more. s ∷ more) rest.1)
  where
    by_slot : (s : Option A) → IsSlot reads elements row s
        → (lack row.0 row.1 (value_named row.0 elements) ≡ Ok tt) × (slot reads row.0 (value_named row.0 elements) ≡ s)
    by_slot None is = rw (is.1, is.0) (refl, refl)
    by_slot (Some part) is = rw is.1.0 (refl, ap part_in is.1.1)

-- a document that is laid out is read
pub laid_arranged : {A : Type 0} (reads : Reader A) (rows : Rows) (slots : List (Option A)) (elements : List Element) → IsLaid reads rows slots elements
    → arranged reads rows elements ≡ Ok slots
laid_arranged reads rows slots elements is =
    let clean : checked reads elements ≡ Ok tt =
    found-checked reads elements is.distinct (λ name value found. slot-reads reads elements rows slots name value is.each (only_name rows name elements value is.only found) found) in
    let full = slots-complete reads rows slots elements is.each in
    ap (λ first. bind first (λ _. bind (complete rows elements) (λ _. Ok (slots_of reads rows elements)))) clean
    ∙ ap (λ second. bind second (λ _. Ok (slots_of reads rows elements))) full.0
    ∙ ap (λ all. Ok all) full.1

-- the same of what is built
pub built_laid : {A B : Type 0} (reads : Reader A) (rows : Rows) (build : List (Option A) → B) (out : B) (elements : List Element) → Distinct elements → Knows reads rows
    → built reads rows build elements ≡ Ok out → IsBuilt reads rows build out elements
built_laid {A} {B} reads rows build out elements distinct knows is = by_read (arranged reads rows elements) refl is
  where
    by_read : (all : Result (List (Option A)) Refusal) → arranged reads rows elements ≡ all → map_read build all ≡ Ok out → IsBuilt reads rows build out elements
    by_read (Err refusal) whole is = absurd (cc)
    by_read (Ok slots) whole is =
        record { slots = slots; laid = arranged_laid reads rows slots elements distinct knows whole; built_of = let same : build slots ≡ out = cc in sym same }

pub laid_built : {A B : Type 0} (reads : Reader A) (rows : Rows) (build : List (Option A) → B) (out : B) (elements : List Element)
    → IsBuilt reads rows build out elements → built reads rows build elements ≡ Ok out
laid_built reads rows build out elements is =
    ap (map_read build) (laid_arranged reads rows is.slots elements is.laid) ∙ ap (λ x. Ok x) (sym is.built_of)

-- a table knows its names
pub reads_known : {A : Type 0} (table : List (Row A)) → Knows (reads_of table) (rows_of table)
reads_known [] = λ name value part is. absurd (cc)
reads_known {A} (row ∷ table) = λ name value part is. by_test name value part (reads_known table name value part) (bytes_eq name row.name) is
  where
    by_test : (name : List ℕ) (value : Plain) (part : A) → (reads_of table name value ≡ Ok part → is_named name (rows_of table) ≡ true) → (b : Bool)
        → (if b then row.reads name value else reads_of table name value) ≡ Ok part → (b || is_named name (rows_of table)) ≡ true
    by_test name value part rest true is = refl
    by_test name value part rest false is = rest is
