-- Documents and arrays that stand under a name.
use Rattle.std.specs.Prelude.{ℕ, ◌+◌, ◌==◌, nat_lt, Bool, ◌&&◌, List, [], ◌∷◌, length, decimal, if◌then◌else◌, Option, None, Some, Result, Ok}
use Rattle.qe_value.specs.declared.value.Plain.{Plain}
use Rattle.qe_document.specs.Views.{fields_of, items_of}
use Rattle.qe_layout.specs.declared.malformed.Kind.TheVariants.{WrongType, NoEdges, TooManyEdges}
use Rattle.qe_layout.specs.Refusal.{Refusal, wrong, bind, map_read, read_inside}
use Rattle.qe_layout.specs.Layouts.{Element, Reader}

-- what has to be there is, or the value has another type
abbrev pub of_type : {A : Type 0} → List ℕ → Option A → Result A Refusal
of_type name None = wrong name WrongType
of_type name (Some inner) = Ok inner

-- a document that stands under a name, by the reader of its elements
abbrev pub document_reads : {A : Type 0} → (List Element → Result A Refusal) → Reader A
document_reads inner name value = bind (of_type name (fields_of value)) (λ elements. read_inside name (inner elements))

-- the items from a place on, each under its index
abbrev pub each_read : {A : Type 0} → Reader A → ℕ → List Plain → Result (List A) Refusal
each_read reads i [] = Ok []
each_read reads i (item ∷ items) = bind (reads (decimal i) item) (λ x. map_read (λ xs. x ∷ xs) (each_read reads (i + 1) items))

-- an array that stands under a name: its type, and then its items
abbrev pub items_reads : {A : Type 0} → Reader A → Reader (List A)
items_reads reads name value = bind (of_type name (items_of value)) (λ items. read_inside name (each_read reads 0 items))

-- how many items there may be; `some` says that there has to be one
abbrev pub count_reads : Bool → ℕ → List ℕ → ℕ → Result (Unit {0}) Refusal
count_reads some most name count =
    if some && (count == 0) then wrong name NoEdges else (if nat_lt most count then wrong name (TooManyEdges count) else Ok tt)

-- an array of some number of items: its type, its number of items, and then the items
abbrev pub bounded_reads : {A : Type 0} → Bool → ℕ → Reader A → Reader (List A)
bounded_reads some most reads name value =
    bind (of_type name (items_of value)) (λ items. bind (count_reads some most name (length items)) (λ _. read_inside name (each_read reads 0 items)))
