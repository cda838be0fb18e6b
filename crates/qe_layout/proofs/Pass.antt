-- The pass over a document as the code makes it: each element's part goes into the slot of its row, and then the rows
-- are looked through.
use Rattle.std.specs.Prelude.{ℕ, slice_set, List, [], ◌∷◌, Option, None, Some, Result, Ok}
use Rattle.std.specs.Option.{option_map_or}
use Rattle.qe_layout.specs.Refusal.{Refusal, bind, map_read}
use Rattle.qe_layout.specs.Layouts.{Element, Reader, Rows, lack, place_from}

-- a part is put into the slot at a place
abbrev pub with_slot : {A : Type 0} → Option ℕ → Option A → List (Option A) → List (Option A)
with_slot place part slots = option_map_or (λ i. slice_set slots i part) place slots

abbrev pub filled_one : {A : Type 0} → Reader A → Rows → Element → List (Option A) → Result (List (Option A)) Refusal
filled_one reads rows e slots = map_read (λ part. with_slot (place_from e.0 0 rows) (Some part) slots) (reads e.0 e.1)

abbrev pub filled : {A : Type 0} → Reader A → Rows → List Element → List (Option A) → Result (List (Option A)) Refusal
filled reads rows [] slots = Ok slots
filled reads rows (e ∷ elements) slots = bind (filled_one reads rows e slots) (λ next. filled reads rows elements next)

-- the rows that are needed have a part
abbrev pub complete_in : {A : Type 0} → Rows → List (Option A) → Result (Unit {0}) Refusal
complete_in [] slots = Ok tt
complete_in {A} (row ∷ rows) [] = bind (lack {V = A} row.0 row.1 None) (λ _. complete_in {A = A} rows [])
complete_in (row ∷ rows) (s ∷ slots) = bind (lack row.0 row.1 s) (λ _. complete_in rows slots)
