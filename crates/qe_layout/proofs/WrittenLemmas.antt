-- What is written in a table's order is read again.
use Rattle.std.proofs.Common.{◌≡◌, ℕ, Bool, true, false, ◌||◌, List, [], ◌∷◌, refl, ap, sym, ◌∙◌, Option, None, Some, Ok}
use Rattle.std.specs.Prelude.{bytes_eq}
use Rattle.std.proofs.lemmas.Bool.{cond-true, cond-false, or_parts}
use Rattle.std.proofs.lemmas.Slice.Eq.{bytes_eq-Decides}
use Rattle.qe_document.specs.Names.{Distinct, is_named, value_named}
use Rattle.qe_value.specs.declared.value.Plain.{Plain}
use Rattle.qe_layout.specs.declared.malformed.Kind.{Kind}
use Rattle.qe_layout.specs.Refusal.{map_read}
use Rattle.qe_layout.specs.Layouts.{Element, Reader, Rows, built, AreSlots, HasOnly, IsLaid}
use Rattle.qe_layout.specs.Writing.{written, AreSpelled}
use Rattle.qe_layout.proofs.LaidLemmas.{laid_arranged}

written-new : {A : Type 0} (spell : A → Plain) (name : List ℕ) (rows : Rows) (slots : List (Option A)) → is_named name rows ≡ false
    → is_named name (written spell rows slots) ≡ false
written-new spell name [] slots new = refl
written-new spell name (row ∷ rows) [] new = refl
written-new spell name (row ∷ rows) (None ∷ slots) new = written-new spell name rows slots (or_parts (bytes_eq name row.0) (is_named name rows) new).1
written-new spell name (row ∷ rows) (Some part ∷ slots) new =
    let parts = or_parts (bytes_eq name row.0) (is_named name rows) new in
    rw (parts.0, written-new spell name rows slots parts.1) refl

pub written-distinct : {A : Type 0} (spell : A → Plain) (rows : Rows) (slots : List (Option A)) → Distinct rows → Distinct (written spell rows slots)
written-distinct spell [] slots apart = tt
written-distinct spell (row ∷ rows) [] apart = tt
written-distinct spell (row ∷ rows) (None ∷ slots) apart = written-distinct spell rows slots apart.1
written-distinct spell (row ∷ rows) (Some part ∷ slots) apart = (written-new spell row.0 rows slots apart.0, written-distinct spell rows slots apart.1)

only-more : (row : List ℕ × Option Kind) (rows : Rows) (elements : List Element) → HasOnly rows elements → HasOnly (row ∷ rows) elements
only-more row rows [] only = tt
only-more row rows (e ∷ elements) only = (by_test (bytes_eq e.0 row.0) only.0, only-more row rows elements only.1)
  where
    by_test : (b : Bool) → is_named e.0 rows ≡ true → (b || is_named e.0 rows) ≡ true
    by_test true named = refl
    by_test false named = named

itself : (name : List ℕ) → bytes_eq name name ≡ true
itself name = (bytes_eq-Decides name name).1 refl

written-only : {A : Type 0} (spell : A → Plain) (rows : Rows) (slots : List (Option A)) → HasOnly rows (written spell rows slots)
written-only spell [] slots = tt
written-only spell (row ∷ rows) [] = tt
written-only spell (row ∷ rows) (None ∷ slots) = only-more row rows (written spell rows slots) (written-only spell rows slots)
written-only spell (row ∷ rows) (Some part ∷ slots) =
    (rw (itself row.0) refl, only-more row rows (written spell rows slots) (written-only spell rows slots))

new-value : (name : List ℕ) (elements : List Element) → is_named name elements ≡ false → value_named name elements ≡ None
new-value name [] new = refl
new-value name (e ∷ elements) new =
    let parts = or_parts (bytes_eq name e.0) (is_named name elements) new in
    rw parts.0 (new-value name elements parts.1)

-- a later row has another name
other-name : (name first : List ℕ) (rows : Rows) → is_named name rows ≡ true → is_named first rows ≡ false → bytes_eq name first ≡ false
other-name name first rows named new = by_test (bytes_eq name first) refl
  where
    by_test : (b : Bool) → bytes_eq name first ≡ b → bytes_eq name first ≡ false
    by_test false is = is
    by_test true is =
        let both : true ≡ false = sym named ∙ ap (λ n. is_named n rows) ((bytes_eq-Decides name first).0 is) ∙ new in
        absurd (cc)

written-slots : {A : Type 0} (reads : Reader A) (spell : A → Plain) (rows : Rows) (slots : List (Option A)) (elements : List Element) → Distinct rows → AreSpelled reads spell rows slots
    → ((name : List ℕ) → is_named name rows ≡ true → value_named name elements ≡ value_named name (written spell rows slots)) → AreSlots reads elements rows slots
written-slots reads spell [] [] elements apart each same = tt
written-slots reads spell [] (s ∷ slots) elements apart each same = absurd each
written-slots reads spell (row ∷ rows) [] elements apart each same = absurd each
written-slots reads spell (row ∷ rows) (None ∷ slots) elements apart each same = (
  (each.0, same row.0 (rw (itself row.0) refl) ∙ new-value row.0 (written spell rows slots) (written-new spell row.0 rows slots apart.0)),
  written-slots reads spell rows slots elements apart.1 each.1 (λ name named. same name (rw (other-name name row.0 rows named apart.0) named)),
)
written-slots reads spell (row ∷ rows) (Some part ∷ slots) elements apart each same = (
  (
    spell part,
    (same row.0 (rw (itself row.0) refl) ∙ cond-true (bytes_eq row.0 row.0) (Some (spell part)) (value_named row.0 (written spell rows slots)) (itself row.0), each.0),
  ),
  written-slots reads spell rows slots elements apart.1 each.1 (λ name named.
      let other = other-name name row.0 rows named apart.0 in
      same name (rw other named) ∙ cond-false (bytes_eq name row.0) (Some (spell part)) (value_named name (written spell rows slots)) other),
)

-- the written elements are laid out
pub written_laid : {A : Type 0} (reads : Reader A) (spell : A → Plain) (rows : Rows) (slots : List (Option A)) → Distinct rows → AreSpelled reads spell rows slots
    → IsLaid reads rows slots (written spell rows slots)
written_laid reads spell rows slots apart each =
    record {
      each = written-slots reads spell rows slots (written spell rows slots) apart each (λ name named. refl);
      only = written-only spell rows slots;
      distinct = written-distinct spell rows slots apart;
    }

-- and read as what is built of the slots
pub written_read : {A B : Type 0} (reads : Reader A) (spell : A → Plain) (rows : Rows) (build : List (Option A) → B) (slots : List (Option A)) → Distinct rows
    → AreSpelled reads spell rows slots → built reads rows build (written spell rows slots) ≡ Ok (build slots)
written_read reads spell rows build slots apart each =
    ap (map_read build) (laid_arranged reads rows slots (written spell rows slots) (written_laid reads spell rows slots apart each))
