-- A place for each field: filled in any order, and listed in rising order. The names of a document are distinct, so that
-- each place is filled once.
use Rattle.std.specs.Prelude.{ℕ, ◌+◌, List, [], ◌∷◌, map, slice_set, Option, None, Some}

-- a value is put at its place, where there is one
abbrev pub put : {V : Type 0} → Option (ℕ × V) → List (Option V) → List (Option V)
put None slots = slots
put (Some placed) slots = slice_set slots placed.0 (Some placed.1)

-- as many empty places as there are items
abbrev pub empty_slots : {A V : Type 0} → List A → List (Option V)
empty_slots items = map (λ _. None) items

-- what stands at the places, from the first one's number on
abbrev pub listed_from : {V W : Type 0} → (ℕ → V → W) → ℕ → List (Option V) → List W
listed_from item i [] = []
listed_from item i (None ∷ slots) = listed_from item (i + 1) slots
listed_from item i (Some v ∷ slots) = item i v ∷ listed_from item (i + 1) slots
