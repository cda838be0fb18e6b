-- Documents: added, found, changed and taken out.
use Rattle.std.specs.Prelude.{ℕ, ◌==◌, nat_lt, List, [], ◌∷◌, Bool, if◌then◌else◌}
use Rattle.std.specs.List.{list_any}
use Rattle.qe_value.specs.declared.value.Value.{Value}
use Rattle.qe_store.specs.declared.stored.Cell.{Cell}
use Rattle.qe_store.specs.declared.stored.Stored.{Stored}
use Rattle.qe_protocol.specs.Filters.{same_id}
use Rattle.qe_protocol.specs.Indexing.{tags_of}

-- a document of these cells, whose tags are those of the cells' blocks
abbrev pub document_of : Value → List (ℕ × Cell) → Stored
document_of id cells = record { id = id; cells = cells; tags = tags_of cells }

abbrev pub has_document : Value → List Stored → Bool
has_document id docs = list_any (λ stored. same_id stored.id id) docs

-- a cell takes the place of its field's, or its own in the order of the fields
abbrev pub put_cell : ℕ × Cell → List (ℕ × Cell) → List (ℕ × Cell)
put_cell new [] = new ∷ []
put_cell new (cell ∷ cells) =
    if nat_lt cell.0 new.0 then cell ∷ put_cell new cells
    else (if cell.0 == new.0 then new ∷ cells
    else new ∷ cell ∷ cells)

abbrev pub put_cells : List (ℕ × Cell) → List (ℕ × Cell) → List (ℕ × Cell)
put_cells cells [] = cells
put_cells cells (new ∷ set) = put_cells (put_cell new cells) set

-- the document with these cells put into it
abbrev pub with_cells : List (ℕ × Cell) → Stored → Stored
with_cells set stored = document_of stored.id (put_cells stored.cells set)

-- the first item that meets a test is changed
abbrev pub change_first : {A : Type 0} → (A → Bool) → (A → A) → List A → List A
change_first test change [] = []
change_first test change (x ∷ xs) = if test x then change x ∷ xs else x ∷ change_first test change xs

-- the first item that meets a test is taken out
abbrev pub drop_first : {A : Type 0} → (A → Bool) → List A → List A
drop_first test [] = []
drop_first test (x ∷ xs) = if test x then xs else x ∷ drop_first test xs
