-- The written order is the table's.
use Rattle.std.specs.Prelude.{◌≡◌, List, [], ◌∷◌, Option, None, Some, Ok}
use Rattle.qe_value.specs.declared.value.Plain.{Plain}
use Rattle.qe_layout.specs.Layouts.{Element, Reader, Rows}

-- the elements of slots, in the order of the rows; an empty slot is left out
abbrev pub written : {A : Type 0} → (A → Plain) → Rows → List (Option A) → List Element
written spell [] slots = []
written spell (row ∷ rows) [] = []
written spell (row ∷ rows) (None ∷ slots) = written spell rows slots
written spell (row ∷ rows) (Some part ∷ slots) = (row.0, spell part) ∷ written spell rows slots

-- each slot's part is read again as it is spelled, and only rows that may lack have none
abbrev pub AreSpelled : {A : Type 0} → Reader A → (A → Plain) → Rows → List (Option A) → Type 0
AreSpelled reads spell [] [] = Unit {0}
AreSpelled reads spell [] (s ∷ slots) = ⊥
AreSpelled reads spell (row ∷ rows) [] = ⊥
AreSpelled reads spell (row ∷ rows) (None ∷ slots) = (row.1 ≡ None) × AreSpelled reads spell rows slots
AreSpelled reads spell (row ∷ rows) (Some part ∷ slots) = (reads row.0 (spell part) ≡ Ok part) × AreSpelled reads spell rows slots
