-- What is read of documents of cells is written and read again.
use Rattle.std.proofs.Common.{◌≡◌, ℕ, suc, ◌+◌, ◌||◌, Bool, true, false, List, [], ◌∷◌, map, refl, ap, sym, subst, ◌∙◌, arith, if◌then◌else◌, Option, None, Some, Ok}
use Rattle.std.specs.Prelude.{bytes_eq, slice_get}
use Rattle.std.specs.List.{AllByRecursion}
use Rattle.std.proofs.lemmas.Bool.{or_parts}
use Rattle.qe_value.specs.declared.value.Plain.{Plain, out-Plain, roll-Plain, the_lemmas}
use Rattle.qe_value.specs.declared.value.Plain.TheOpen.{Plain-F}
use Rattle.qe_value.specs.declared.value.Value.{Value}
use Rattle.qe_document.specs.Names.{Distinct, is_named}
use Rattle.qe_document.specs.Views.{plain}
use Rattle.qe_field.specs.declared.field.Field.{Field}
use Rattle.qe_field.specs.declared.field.FieldKind.{FieldKind}
use Rattle.qe_field.specs.declared.field.FieldKind.TheVariants as k
use Rattle.qe_field.specs.Lookup.{known, path_or_none, path_of}
use Rattle.qe_field.specs.Names.{is_reserved}
use Rattle.qe_field.specs.Values.{is_id}
use Rattle.qe_layout.specs.declared.malformed.Kind.TheVariants.{ReservedName, WrongType}
use Rattle.qe_layout.specs.Layouts.{Element, Reader, AreSlots, arranged, built}
use Rattle.qe_layout.specs.Refusal.{wrong, map_read}
use Rattle.qe_layout.specs.Writing.{written}
use Rattle.qe_layout.proofs.FillLemmas.{bytes_eq-sym}
use Rattle.qe_layout.proofs.LaidLemmas.{arranged_slots}
use Rattle.qe_layout.proofs.WrittenLemmas.{written_read, written-distinct}
use Rattle.qe_parts.proofs.FormLemmas.{map_ok}
use Rattle.qe_command.specs.declared.cells.SentCell.{SentCell}
use Rattle.qe_command.specs.declared.cells.SentCell.TheVariants as sent
use Rattle.qe_command_document.specs.declared.part.CellPart.{CellPart}
use Rattle.qe_command_document.specs.declared.part.CellPart.TheVariants as part
use Rattle.qe_command_document.specs.declared.part.Doc.{Doc}
use Rattle.qe_command_document.specs.Values.{open_value, value_of}
use Rattle.qe_command_document.specs.Payloads.{insert_reads_of}
use Rattle.qe_command_document.specs.CellDocuments.{id_name, id_reads, sent_reads, field_reads, doc_reads, set_reads, field_rows, doc_rows, doc_build, cells_from, doc_of, set_of}
use Rattle.qe_command_document.proofs.ValueLemmas.{value_again}
use Rattle.qe_command_written.specs.Parts.{FitsCell, CellAgain}
use Rattle.qe_command_written.specs.Written.{cell_value, cell_elements, doc_elements}
use Rattle.qe_command_written.proofs.FormLemmas.{insert_under}
use Rattle.qe_command_written.proofs.TableLemmas.{EachPart, each_held, spelled}

-- a tree is that of its value
plain_open : (level : Plain-F Plain) → plain (open_value level) ≡ roll-Plain level
plain_open (Plain-F.Double b) = search (the_lemmas)
plain_open (Plain-F.Str t) = search (the_lemmas)
plain_open (Plain-F.Doc fs) = search (the_lemmas)
plain_open (Plain-F.Array vs) = search (the_lemmas)
plain_open (Plain-F.Binary s b) = search (the_lemmas)
plain_open (Plain-F.ObjectId b) = search (the_lemmas)
plain_open (Plain-F.Bool b) = search (the_lemmas)
plain_open (Plain-F.Date z) = search (the_lemmas)
plain_open Plain-F.Null = search (the_lemmas)
plain_open (Plain-F.Int32 z) = search (the_lemmas)
plain_open (Plain-F.Timestamp n) = search (the_lemmas)
plain_open (Plain-F.Int64 z) = search (the_lemmas)
plain_open (Plain-F.Decimal b) = search (the_lemmas)

pub tree_again : (tree : Plain) → plain (value_of tree) ≡ tree
unfolding value_of
tree_again tree = plain_open (out-Plain tree) ∙ search (the_lemmas)

-- how a part is written, what it has to be, and what is read again
abbrev pub spell : CellPart → Plain
spell (part.Id id) = plain id
spell (part.Cell cell) = cell_value cell

abbrev pub PartFits : CellPart → Type 0
PartFits (part.Id id) = Unit {0}
PartFits (part.Cell cell) = FitsCell cell

abbrev pub PartAgain : CellPart → Type 0
PartAgain (part.Id id) = Unit {0}
PartAgain (part.Cell cell) = CellAgain cell

-- a cell, and what holds of it
pub sent_again : (kind : FieldKind) (name : List ℕ) (value : Plain) (cell : SentCell) → sent_reads kind name value ≡ Ok cell
    → FitsCell cell × (CellAgain cell → sent_reads kind name (cell_value cell) ≡ Ok cell)
sent_again k.Plain name value cell is =
    let same : sent.Plain (value_of value) ≡ cell = cc in
    subst (λ c. FitsCell c × (CellAgain c → sent_reads k.Plain name (cell_value c) ≡ Ok c)) same (tt, λ again. ap (λ v. Ok (sent.Plain v)) (value_again (value_of value)))
sent_again (k.Equality id kind contention greatest) name value cell is =
    let found = map_ok (λ payload. sent.Payload payload) (insert_reads_of false id kind greatest name value) cell is in
    let under = insert_under false id kind greatest name value found.0 found.1.0 in
    subst (λ c. FitsCell c × (CellAgain c → sent_reads (k.Equality id kind contention greatest) name (cell_value c) ≡ Ok c)) (sym found.1.1)
    (under.0, λ again. ap (map_read (λ payload. sent.Payload payload)) (under.1 again))
sent_again (k.Range id kind contention greatest domain) name value cell is =
    let found = map_ok (λ payload. sent.Payload payload) (insert_reads_of true id kind greatest name value) cell is in
    let under = insert_under true id kind greatest name value found.0 found.1.0 in
    subst (λ c. FitsCell c × (CellAgain c → sent_reads (k.Range id kind contention greatest domain) name (cell_value c) ≡ Ok c)) (sym found.1.1)
    (under.0, λ again. ap (map_read (λ payload. sent.Payload payload)) (under.1 again))

abbrev pub IsCell : CellPart → Type 0
IsCell (part.Id id) = ⊥
IsCell (part.Cell cell) = Unit {0}

abbrev pub IsId : CellPart → Type 0
IsId (part.Id id) = Unit {0}
IsId (part.Cell cell) = ⊥

-- an id
pub id_again : (name : List ℕ) (value : Plain) (id : Value) → id_reads name value ≡ Ok id → id_reads name (plain id) ≡ Ok id
id_again name value id is = ap (id_reads name) (ap plain (by_test (is_id value) is) ∙ tree_again value) ∙ is
  where
    by_test : (b : Bool) → (if b then Ok (value_of value) else wrong name WrongType) ≡ Ok id → id ≡ value_of value
    by_test true is = let same : value_of value ≡ id = cc in sym same
    by_test false is = absurd (cc)

field_again : (found : Option (ℕ × FieldKind)) (name : List ℕ) (value : Plain) (x : CellPart) → field_reads found name value ≡ Ok x
    → IsCell x × (PartFits x × (PartAgain x → field_reads found name (spell x) ≡ Ok x))
field_again None name value x is = absurd (cc)
field_again (Some field) name value x is =
    let found = map_ok (λ cell. part.Cell cell) (sent_reads field.1 name value) x is in
    let held = sent_again field.1 name value found.0 found.1.0 in
    subst (λ y. IsCell y × (PartFits y × (PartAgain y → field_reads (Some field) name (spell y) ≡ Ok y))) (sym found.1.1)
    (tt, (held.0, λ again. ap (map_read (λ cell. part.Cell cell)) (held.1 again)))

-- an element of a document that is inserted
pub doc_part : (fields : List Field) (name : List ℕ) (value : Plain) (x : CellPart) → doc_reads fields name value ≡ Ok x
    → PartFits x × (PartAgain x → doc_reads fields name (spell x) ≡ Ok x)
unfolding doc_reads
doc_part fields name value x is = by_tests (is_reserved name) (bytes_eq name id_name) is
  where
    by_tests : (reserved own : Bool) → (if reserved then wrong name ReservedName else (if own then map_read (λ id. part.Id id) (id_reads name value) else field_reads (known fields name) name value)) ≡ Ok x
        → PartFits x × (PartAgain x → (if reserved then wrong name ReservedName else (if own then map_read (λ id. part.Id id) (id_reads name (spell x)) else field_reads (known fields name) name (spell x))) ≡ Ok x)
    by_tests true own is = absurd (cc)
    by_tests false true is =
        let found = map_ok (λ id. part.Id id) (id_reads name value) x is in
        subst (λ y. PartFits y × (PartAgain y → map_read (λ id. part.Id id) (id_reads name (spell y)) ≡ Ok y)) (sym found.1.1)
        (tt, λ again. ap (map_read (λ id. part.Id id)) (id_again name value found.0 found.1.0))
    by_tests false false is = (field_again (known fields name) name value x is).1

-- only the id's is no cell
doc_cell : (fields : List Field) (name : List ℕ) (value : Plain) (x : CellPart) → bytes_eq name id_name ≡ false → doc_reads fields name value ≡ Ok x → IsCell x
unfolding doc_reads
doc_cell fields name value x other is = by_test (is_reserved name) (bytes_eq name id_name) other is
  where
    by_test : (reserved own : Bool) → own ≡ false → (if reserved then wrong name ReservedName else (if own then map_read (λ id. part.Id id) (id_reads name value) else field_reads (known fields name) name value)) ≡ Ok x → IsCell x
    by_test true own other is = absurd (cc)
    by_test false true other is = absurd (cc)
    by_test false false other is = (field_again (known fields name) name value x is).0

doc_id : (fields : List Field) (value : Plain) (x : CellPart) → doc_reads fields id_name value ≡ Ok x → IsId x
unfolding doc_reads
doc_id fields value x is =
    let found = map_ok (λ id. part.Id id) (id_reads id_name value) x is in
    subst IsId (sym found.1.1) tt

-- an element of a set
pub set_part : (fields : List Field) (name : List ℕ) (value : Plain) (x : CellPart) → set_reads fields name value ≡ Ok x
    → IsCell x × (PartFits x × (PartAgain x → set_reads fields name (spell x) ≡ Ok x))
unfolding set_reads
set_part fields name value x is = by_test (is_reserved name || bytes_eq name id_name) is
  where
    by_test : (reserved : Bool) → (if reserved then wrong name ReservedName else field_reads (known fields name) name value) ≡ Ok x
        → IsCell x × (PartFits x × (PartAgain x → (if reserved then wrong name ReservedName else field_reads (known fields name) name (spell x)) ≡ Ok x))
    by_test true is = absurd (cc)
    by_test false is = field_again (known fields name) name value x is

-- the cells of slots
cells_fit : (i : ℕ) (slots : List (Option CellPart)) → EachPart PartFits slots → AllByRecursion (λ c. FitsCell c.1) (cells_from i slots)
cells_fit i [] each = tt
cells_fit i (None ∷ slots) each = cells_fit (i + 1) slots each
cells_fit i (Some (part.Id id) ∷ slots) each = cells_fit (i + 1) slots each.1
cells_fit i (Some (part.Cell cell) ∷ slots) each = (each.0, cells_fit (i + 1) slots each.1)

cells_again : (i : ℕ) (slots : List (Option CellPart)) → AllByRecursion (λ c. CellAgain c.1) (cells_from i slots) → EachPart PartAgain slots
cells_again i [] each = tt
cells_again i (None ∷ slots) each = cells_again (i + 1) slots each
cells_again i (Some (part.Id id) ∷ slots) each = (tt, cells_again (i + 1) slots each)
cells_again i (Some (part.Cell cell) ∷ slots) each = (each.0, cells_again (i + 1) slots each.1)

cells_only : (fields all : List Field) (slots : List (Option CellPart)) (elements : List Element) → is_named id_name (field_rows fields) ≡ false
    → AreSlots (doc_reads all) elements (field_rows fields) slots → EachPart IsCell slots
cells_only [] all [] elements none each = tt
cells_only [] all (s ∷ slots) elements none each = absurd each
cells_only (field ∷ fields) all [] elements none each = absurd each
cells_only (field ∷ fields) all (None ∷ slots) elements none each = cells_only fields all slots elements (or_parts (bytes_eq id_name field.path) (is_named id_name (field_rows fields)) none).1 each.1
cells_only (field ∷ fields) all (Some x ∷ slots) elements none each =
    let parts = or_parts (bytes_eq id_name field.path) (is_named id_name (field_rows fields)) none in
    (doc_cell all field.path each.0.0 x (bytes_eq-sym field.path id_name ∙ parts.0) each.0.1.1, cells_only fields all slots elements parts.1 each.1)

cells_written : (path : ℕ → List ℕ) (reads : Reader CellPart) (elements : List Element) (i : ℕ) (fields : List Field) (slots : List (Option CellPart))
    → ((j : ℕ) (field : Field) → slice_get fields j ≡ Some field → path (i + j) ≡ field.path) → AreSlots reads elements (field_rows fields) slots → EachPart IsCell slots
    → map (λ (cell : ℕ × SentCell). (path cell.0, cell_value cell.1)) (cells_from i slots) ≡ written spell (field_rows fields) slots
cells_written path reads elements i [] [] paths each cells = refl
cells_written path reads elements i [] (s ∷ slots) paths each cells = absurd each
cells_written path reads elements i (field ∷ fields) [] paths each cells = absurd each
cells_written path reads elements i (field ∷ fields) (None ∷ slots) paths each cells =
    cells_written path reads elements (i + 1) fields slots (λ j f is. let place : i + 1 + j ≡ i + suc j = omega arith in ap path place ∙ paths (suc j) f is) each.1 cells
cells_written path reads elements i (field ∷ fields) (Some (part.Id id) ∷ slots) paths each cells = absurd cells.0
cells_written path reads elements i (field ∷ fields) (Some (part.Cell cell) ∷ slots) paths each cells =
    let here : path i ≡ field.path = let place : i ≡ i + 0 = omega arith in ap path place ∙ paths 0 field refl in
    let rest = cells_written path reads elements (i + 1) fields slots (λ j f is. let place : i + 1 + j ≡ i + suc j = omega arith in ap path place ∙ paths (suc j) f is) each.1 cells.1 in
    ap (λ name. (name, cell_value cell) ∷ map (λ (c : ℕ × SentCell). (path c.0, cell_value c.1)) (cells_from (i + 1) slots)) here ∙ ap (λ more. (field.path, cell_value cell) ∷ more) rest

pub paths_of : (fields : List Field) (j : ℕ) (field : Field) → slice_get fields j ≡ Some field → path_of fields (0 + j) ≡ field.path
paths_of fields j field is = let place : 0 + j ≡ j = omega arith in ap (λ n. path_of fields n) place ∙ ap path_or_none is

-- the slots of a document that is inserted, of which the first is the id's
pub record DocSlots (fields : List Field) (elements : List Element) (doc : Doc) : Type 0 where
  pub rest : List (Option CellPart)
  pub each : AreSlots (doc_reads fields) elements (doc_rows fields) (Some (part.Id doc.id) ∷ rest)
  pub cells : doc.cells ≡ cells_from 0 rest
  pub same : doc_elements fields doc.id doc.cells ≡ written spell (doc_rows fields) (Some (part.Id doc.id) ∷ rest)

pub doc_slots : (fields : List Field) (elements : List Element) (doc : Doc) → doc_of fields elements ≡ Ok doc → Distinct (doc_rows fields) → DocSlots fields elements doc
unfolding doc_of
doc_slots fields elements doc is apart =
    let reads = doc_reads fields in
    let found = map_ok doc_build (arranged reads (doc_rows fields) elements) doc is in
    by_slots found.0 (arranged_slots reads (doc_rows fields) found.0 elements found.1.0) found.1.1
  where
    by_slots : (slots : List (Option CellPart)) → AreSlots (doc_reads fields) elements (doc_rows fields) slots → doc ≡ doc_build slots → DocSlots fields elements doc
    by_slots [] each is = absurd each
    by_slots (None ∷ slots) each is = let no = each.0.0 in absurd (cc)
    by_slots (Some (part.Cell cell) ∷ slots) each is = absurd (doc_id fields each.0.0 (part.Cell cell) each.0.1.1)
    by_slots (Some (part.Id id) ∷ slots) each is =
        let only = cells_only fields fields slots elements apart.0 each.1 in
        subst (λ d. DocSlots fields elements d) (sym is) (record {
          rest = slots;
          each = each;
          cells = refl;
          same = ap (λ more. (id_name, plain id) ∷ more) (cells_written (path_of fields) (doc_reads fields) elements 0 fields slots (paths_of fields) each.1 only);
        })

-- a document that is inserted
pub doc_written : (fields : List Field) (elements : List Element) (doc : Doc) → doc_of fields elements ≡ Ok doc → Distinct (doc_rows fields)
    → AllByRecursion (λ c. FitsCell c.1) doc.cells × (Distinct (doc_elements fields doc.id doc.cells)
    × (AllByRecursion (λ c. CellAgain c.1) doc.cells → doc_of fields (doc_elements fields doc.id doc.cells) ≡ Ok doc))
unfolding doc_of
doc_written fields elements doc is apart =
    let found = doc_slots fields elements doc is apart in
    let all : List (Option CellPart) = Some (part.Id doc.id) ∷ found.rest in
    let fit = each_held (doc_reads fields) (doc_rows fields) all elements PartFits (λ name value x is. (doc_part fields name value x is).0) found.each in
    let built_again : doc_build all ≡ doc = λ i. record { id = doc.id; cells = sym found.cells i } in (
      subst (AllByRecursion (λ c. FitsCell c.1)) (sym found.cells) (cells_fit 0 found.rest fit.1),
      (
        subst (λ es. Distinct es) (sym found.same) (written-distinct spell (doc_rows fields) all apart),
        λ again.
            ap (built (doc_reads fields) (doc_rows fields) doc_build) found.same
            ∙ written_read (doc_reads fields) spell (doc_rows fields) doc_build all apart
            (spelled (doc_reads fields) spell PartAgain (doc_rows fields) all elements (λ name value x is. (doc_part fields name value x is).1) found.each
            (tt, cells_again 0 found.rest (subst (AllByRecursion (λ c. CellAgain c.1)) found.cells again)))
            ∙ ap (λ d. Ok d) built_again,
      ),
    )

-- the slots of a set
pub record SetSlots (fields : List Field) (elements : List Element) (set : List (ℕ × SentCell)) : Type 0 where
  pub slots : List (Option CellPart)
  pub each : AreSlots (set_reads fields) elements (field_rows fields) slots
  pub cells : set ≡ cells_from 0 slots
  pub same : cell_elements fields set ≡ written spell (field_rows fields) slots

pub set_slots : (fields : List Field) (elements : List Element) (set : List (ℕ × SentCell)) → set_of fields elements ≡ Ok set → SetSlots fields elements set
unfolding set_of
set_slots fields elements set is =
    let reads = set_reads fields in
    let rows = field_rows fields in
    let found = map_ok (cells_from 0) (arranged reads rows elements) set is in
    let each = arranged_slots reads rows found.0 elements found.1.0 in
    let only = each_held reads rows found.0 elements IsCell (λ name value x is. (set_part fields name value x is).0) each in
    record {
      slots = found.0;
      each = each;
      cells = found.1.1;
      same = ap (cell_elements fields) found.1.1 ∙ cells_written (path_of fields) reads elements 0 fields found.0 (paths_of fields) each only;
    }

-- and a set
pub set_written : (fields : List Field) (elements : List Element) (set : List (ℕ × SentCell)) → set_of fields elements ≡ Ok set → Distinct (field_rows fields)
    → AllByRecursion (λ c. FitsCell c.1) set × (Distinct (cell_elements fields set) × (AllByRecursion (λ c. CellAgain c.1) set → set_of fields (cell_elements fields set) ≡ Ok set))
unfolding set_of
set_written fields elements set is apart =
    let reads = set_reads fields in
    let rows = field_rows fields in
    let found = set_slots fields elements set is in
    let fit = each_held reads rows found.slots elements PartFits (λ name value x is. (set_part fields name value x is).1.0) found.each in (
      subst (AllByRecursion (λ c. FitsCell c.1)) (sym found.cells) (cells_fit 0 found.slots fit),
      (
        subst (λ es. Distinct es) (sym found.same) (written-distinct spell rows found.slots apart),
        λ again.
            ap (built reads rows (cells_from 0)) found.same
            ∙ written_read reads spell rows (cells_from 0) found.slots apart
            (spelled reads spell PartAgain rows found.slots elements (λ name value x is. (set_part fields name value x is).1.1) found.each
            (cells_again 0 found.slots (subst (AllByRecursion (λ c. CellAgain c.1)) found.cells again)))
            ∙ ap (λ s. Ok s) (sym found.cells),
      ),
    )
