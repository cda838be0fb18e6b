-- Slots of a table that was read: what holds of each part, and that they are read again as they are written.
use Rattle.std.proofs.Common.{◌≡◌, ℕ, List, [], ◌∷◌, Option, None, Some, Ok}
use Rattle.qe_value.specs.declared.value.Plain.{Plain}
use Rattle.qe_layout.specs.Layouts.{Element, Reader, Rows, AreSlots}
use Rattle.qe_layout.specs.Writing.{written, AreSpelled}

abbrev pub EachPart : {A : Type 0} → (A → Type 0) → List (Option A) → Type 0
EachPart P [] = Unit {0}
EachPart P (None ∷ slots) = EachPart P slots
EachPart P (Some x ∷ slots) = P x × EachPart P slots

pub each_held : {A : Type 0} (reads : Reader A) (rows : Rows) (slots : List (Option A)) (elements : List Element) (P : A → Type 0)
    → ((name : List ℕ) (value : Plain) (x : A) → reads name value ≡ Ok x → P x) → AreSlots reads elements rows slots → EachPart P slots
each_held reads [] [] elements P all each = tt
each_held reads [] (s ∷ slots) elements P all each = absurd each
each_held reads (row ∷ rows) [] elements P all each = absurd each
each_held reads (row ∷ rows) (None ∷ slots) elements P all each = each_held reads rows slots elements P all each.1
each_held reads (row ∷ rows) (Some x ∷ slots) elements P all each = (all row.0 each.0.0 x each.0.1.1, each_held reads rows slots elements P all each.1)

pub spelled : {A : Type 0} (reads : Reader A) (spell : A → Plain) (Again : A → Type 0) (rows : Rows) (slots : List (Option A)) (elements : List Element)
    → ((name : List ℕ) (value : Plain) (x : A) → reads name value ≡ Ok x → Again x → reads name (spell x) ≡ Ok x) → AreSlots reads elements rows slots → EachPart Again slots
    → AreSpelled reads spell rows slots
spelled reads spell Again [] [] elements all each again = tt
spelled reads spell Again [] (s ∷ slots) elements all each again = absurd each
spelled reads spell Again (row ∷ rows) [] elements all each again = absurd each
spelled reads spell Again (row ∷ rows) (None ∷ slots) elements all each again = (each.0.0, spelled reads spell Again rows slots elements all each.1 again)
spelled reads spell Again (row ∷ rows) (Some x ∷ slots) elements all each again =
    (all row.0 each.0.0 x each.0.1.1 again.0, spelled reads spell Again rows slots elements all each.1 again.1)
