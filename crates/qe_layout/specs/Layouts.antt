-- Layouts: a kind of document is one table of rows, and its elements are read into the slots of their rows.
use Rattle.std.specs.Prelude.{◌≡◌, ℕ, ◌+◌, slice_index_or, List, [], ◌∷◌, map, bytes_eq, if◌then◌else◌, Option, None, Some, Result, Ok, Err, true}
use Rattle.qe_document.specs.Names.{Distinct, is_named, value_named}
use Rattle.qe_value.specs.declared.value.Plain.{Plain}
use Rattle.qe_layout.specs.declared.malformed.Kind.{Kind}
use Rattle.qe_layout.specs.declared.malformed.Kind.TheVariants.{Missing, Unknown}
use Rattle.qe_layout.specs.Refusal.{Refusal, wrong, bind, map_read}

-- a name and a value
abbrev pub Element : Type 0
Element = List ℕ × Plain

-- what stands under a name is read, or refused
abbrev pub Reader : Type 0 → Type 0
Reader A = List ℕ → Plain → Result A Refusal

-- names in order, and what the lack of each is called; None: it may lack
abbrev pub Rows : Type 0
Rows = List (List ℕ × Option Kind)

-- a row of a table
pub record Row (A : Type 0) : Type 0 where
  pub name : List ℕ
  pub need : Option Kind
  pub reads : Reader A

-- a row that has to be there, and one that may lack
abbrev pub needed : {A : Type 0} → List ℕ → Reader A → Row A
needed name reads = record { name = name; need = Some Missing; reads = reads }

abbrev pub optional : {A : Type 0} → List ℕ → Reader A → Row A
optional name reads = record { name = name; need = None; reads = reads }

abbrev pub rows_of : {A : Type 0} → List (Row A) → Rows
rows_of table = map (λ row. (row.name, row.need)) table

-- an element is read by the row of its name; without one its name is unknown
abbrev pub reads_of : {A : Type 0} → List (Row A) → Reader A
reads_of [] name value = wrong name Unknown
reads_of (row ∷ table) name value = if bytes_eq name row.name then row.reads name value else reads_of table name value

-- the elements are read in the order in which they stand
abbrev pub checked : {A : Type 0} → Reader A → List Element → Result (Unit {0}) Refusal
checked reads [] = Ok tt
checked reads (e ∷ elements) = bind (reads e.0 e.1) (λ _. checked reads elements)

abbrev pub lack : {V : Type 0} → List ℕ → Option Kind → Option V → Result (Unit {0}) Refusal
lack name need (Some value) = Ok tt
lack name None None = Ok tt
lack name (Some kind) None = wrong name kind

-- the rows that are needed are there, in the table's order
abbrev pub complete : Rows → List Element → Result (Unit {0}) Refusal
complete [] elements = Ok tt
complete (row ∷ rows) elements = bind (lack row.0 row.1 (value_named row.0 elements)) (λ _. complete rows elements)

abbrev pub part_in : {A : Type 0} → Result A Refusal → Option A
part_in (Ok part) = Some part
part_in (Err refusal) = None

-- what is read under a row's name, where it is there
abbrev pub slot : {A : Type 0} → Reader A → List ℕ → Option Plain → Option A
slot reads name None = None
slot reads name (Some value) = part_in (reads name value)

abbrev pub slots_of : {A : Type 0} → Reader A → Rows → List Element → List (Option A)
slots_of reads rows elements = map (λ row. slot reads row.0 (value_named row.0 elements)) rows

-- the slots of a document: the first refusal is that of an element, in the order in which they stand, and then that of a row
abbrev pub arranged : {A : Type 0} → Reader A → Rows → List Element → Result (List (Option A)) Refusal
arranged reads rows elements = bind (checked reads elements) (λ _. bind (complete rows elements) (λ _. Ok (slots_of reads rows elements)))

-- a document is read by what is built of its slots
abbrev pub built : {A B : Type 0} → Reader A → Rows → (List (Option A) → B) → List Element → Result B Refusal
built reads rows build elements = map_read build (arranged reads rows elements)

-- what stands in a slot; none behind the last
abbrev pub in_slot : {A : Type 0} → List (Option A) → ℕ → Option A
in_slot slots place = slice_index_or slots place None

-- the place of a name's row, where the rows count from i
abbrev pub place_from : List ℕ → ℕ → Rows → Option ℕ
place_from name i [] = None
place_from name i (row ∷ rows) = if bytes_eq name row.0 then Some i else place_from name (i + 1) rows

-- THE RELATION: a row's element is there, and is read as the slot's part, or the row may lack and does
abbrev pub IsSlot : {A : Type 0} → Reader A → List Element → List ℕ × Option Kind → Option A → Type 0
IsSlot reads elements row None = (row.1 ≡ None) × (value_named row.0 elements ≡ None)
IsSlot reads elements row (Some part) = (value : Plain) × ((value_named row.0 elements ≡ Some value) × (reads row.0 value ≡ Ok part))

abbrev pub AreSlots : {A : Type 0} → Reader A → List Element → Rows → List (Option A) → Type 0
AreSlots reads elements [] [] = Unit {0}
AreSlots reads elements [] (s ∷ slots) = ⊥
AreSlots reads elements (row ∷ rows) [] = ⊥
AreSlots reads elements (row ∷ rows) (s ∷ slots) = IsSlot reads elements row s × AreSlots reads elements rows slots

-- no element has another name than the rows'
abbrev pub HasOnly : Rows → List Element → Type 0
HasOnly rows [] = Unit {0}
HasOnly rows (e ∷ elements) = (is_named e.0 rows ≡ true) × HasOnly rows elements

-- each needed element once, optional ones at most once, no other, in any order
pub record IsLaid {A : Type 0} (reads : Reader A) (rows : Rows) (slots : List (Option A)) (elements : List Element) : Type 0 where
  pub each : AreSlots reads elements rows slots
  pub only : HasOnly rows elements
  pub distinct : Distinct elements

-- elements that are laid out, of whose parts something is built
pub record IsBuilt {A B : Type 0} (reads : Reader A) (rows : Rows) (build : List (Option A) → B) (out : B) (elements : List Element) : Type 0 where
  pub slots : List (Option A)
  pub laid : IsLaid reads rows slots elements
  pub built_of : out ≡ build slots

-- a name that is read has a row
abbrev pub Knows : {A : Type 0} → Reader A → Rows → Type 0
Knows {A} reads rows = (name : List ℕ) (value : Plain) (part : A) → reads name value ≡ Ok part → is_named name rows ≡ true
