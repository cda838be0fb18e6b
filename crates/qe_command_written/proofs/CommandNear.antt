-- A command that fits is written without a refusal: its document is no longer than the one that it was read of, and fits as that does.
use Rattle.std.proofs.Common.{◌≡◌, ℕ, ◌+◌, ◌||◌, Bool, true, false, List, [], ◌∷◌, refl, ap, sym, subst, ◌∙◌, if◌then◌else◌, Option, None, Some, Ok}
use Rattle.std.specs.Prelude.{bytes_eq}
use Rattle.std.specs.Option.{option_or}
use Rattle.qe_base.specs.Bytes.{AreBytes}
use Rattle.qe_value.specs.declared.value.Plain.{Plain}
use Rattle.qe_value.specs.declared.value.Value.{Value}
use Rattle.qe_value.specs.Spelling.{spelled, document_bytes}
use Rattle.qe_document.specs.Names.{Distinct}
use Rattle.qe_document.specs.Views.{plain}
use Rattle.qe_field.specs.declared.field.Field.{Field}
use Rattle.qe_field.specs.declared.field.FieldKind.{FieldKind}
use Rattle.qe_field.specs.declared.field.FieldKind.TheVariants as k
use Rattle.qe_field.specs.Lookup.{known}
use Rattle.qe_field.specs.Names.{is_reserved}
use Rattle.qe_field.specs.Values.{is_id}
use Rattle.qe_layout.specs.declared.malformed.Kind.TheVariants.{ReservedName, WrongType}
use Rattle.qe_layout.specs.Layouts.{Element, Reader, Rows, AreSlots}
use Rattle.qe_layout.specs.Refusal.{wrong, map_read}
use Rattle.qe_layout.specs.Writing.{written}
use Rattle.qe_parts.proofs.FormLemmas.{map_ok}
use Rattle.qe_command.specs.declared.cells.SentCell.{SentCell}
use Rattle.qe_command.specs.declared.cells.SentCell.TheVariants as sent
use Rattle.qe_command_document.specs.declared.part.CellPart.{CellPart}
use Rattle.qe_command_document.specs.declared.part.CellPart.TheVariants as part
use Rattle.qe_command_document.specs.declared.part.Doc.{Doc}
use Rattle.qe_command_document.specs.Values.{value_of}
use Rattle.qe_command_document.specs.Payloads.{insert_reads_of}
use Rattle.qe_command_document.specs.CellDocuments.{id_name, id_reads, sent_reads, field_reads, doc_reads, set_reads, field_rows, doc_rows, cells_from, doc_of, set_of}
use Rattle.qe_command_written.specs.Faults.{cell_fault, cells_fault}
use Rattle.qe_command_written.specs.Written.{cell_value, cell_elements, doc_elements}
use Rattle.qe_command_written.proofs.CellLemmas.{tree_again, spell, doc_slots, set_slots}
use Rattle.qe_command_written.proofs.NearLemmas.{IsNear, itself, AreNear, named_bytes, written_near}
use Rattle.qe_command_written.proofs.PayloadNear.{insert_value_near}
use Rattle.qe_command_written.proofs.TableLemmas.{EachPart}

-- a cell
cell_near : (kind : FieldKind) (name : List ℕ) (value : Plain) (cell : SentCell) → sent_reads kind name value ≡ Ok cell → AreBytes (spelled value).bytes
    → IsNear value (cell_value cell) × (cell_fault cell ≡ None)
cell_near k.Plain name value cell is are =
    let same : sent.Plain (value_of value) ≡ cell = cc in
    subst (λ c. IsNear value (cell_value c) × (cell_fault c ≡ None)) same (subst (IsNear value) (sym (tree_again value)) (itself value), refl)
cell_near (k.Equality id kind contention greatest) name value cell is are =
    let found = map_ok (λ payload. sent.Payload payload) (insert_reads_of false id kind greatest name value) cell is in
    subst (λ c. IsNear value (cell_value c) × (cell_fault c ≡ None)) (sym found.1.1) (insert_value_near false id kind greatest name value found.0 found.1.0 are)
cell_near (k.Range id kind contention greatest domain) name value cell is are =
    let found = map_ok (λ payload. sent.Payload payload) (insert_reads_of true id kind greatest name value) cell is in
    subst (λ c. IsNear value (cell_value c) × (cell_fault c ≡ None)) (sym found.1.1) (insert_value_near true id kind greatest name value found.0 found.1.0 are)

abbrev PartClean : CellPart → Type 0
PartClean (part.Id id) = Unit {0}
PartClean (part.Cell cell) = cell_fault cell ≡ None

abbrev PartNear : Plain → CellPart → Type 0
PartNear value x = IsNear value (spell x) × PartClean x

pub id_near : (name : List ℕ) (value : Plain) (id : Value) → id_reads name value ≡ Ok id → IsNear value (plain id)
id_near name value id is = by_test (is_id value) is
  where
    by_test : (b : Bool) → (if b then Ok (value_of value) else wrong name WrongType) ≡ Ok id → IsNear value (plain id)
    by_test true is = let same : value_of value ≡ id = cc in subst (IsNear value) (sym (tree_again value) ∙ ap plain same) (itself value)
    by_test false is = absurd (cc)

id_part_near : (name : List ℕ) (value : Plain) (x : CellPart) → map_read (λ id. part.Id id) (id_reads name value) ≡ Ok x → PartNear value x
id_part_near name value x is =
    let found = map_ok (λ id. part.Id id) (id_reads name value) x is in
    subst (PartNear value) (sym found.1.1) (id_near name value found.0 found.1.0, tt)

field_near : (found : Option (ℕ × FieldKind)) (name : List ℕ) (value : Plain) (x : CellPart) → field_reads found name value ≡ Ok x → AreBytes (spelled value).bytes → PartNear value x
field_near None name value x is are = absurd (cc)
field_near (Some field) name value x is are =
    let found = map_ok (λ cell. part.Cell cell) (sent_reads field.1 name value) x is in
    subst (PartNear value) (sym found.1.1) (cell_near field.1 name value found.0 found.1.0 are)

doc_part_near : (fields : List Field) (name : List ℕ) (value : Plain) (x : CellPart) → doc_reads fields name value ≡ Ok x → AreBytes (spelled value).bytes → PartNear value x
unfolding doc_reads
doc_part_near fields name value x is are = by_tests (is_reserved name) (bytes_eq name id_name) is
  where
    by_tests : (reserved own : Bool) → (if reserved then wrong name ReservedName else (if own then map_read (λ id. part.Id id) (id_reads name value) else field_reads (known fields name) name value)) ≡ Ok x
        → PartNear value x
    by_tests true own is = absurd (cc)
    by_tests false true is = id_part_near name value x is
    by_tests false false is = field_near (known fields name) name value x is are

set_part_near : (fields : List Field) (name : List ℕ) (value : Plain) (x : CellPart) → set_reads fields name value ≡ Ok x → AreBytes (spelled value).bytes → PartNear value x
unfolding set_reads
set_part_near fields name value x is are = by_test (is_reserved name || bytes_eq name id_name) is
  where
    by_test : (reserved : Bool) → (if reserved then wrong name ReservedName else field_reads (known fields name) name value) ≡ Ok x → PartNear value x
    by_test true is = absurd (cc)
    by_test false is = field_near (known fields name) name value x is are

each_clean : (reads : Reader CellPart) (rows : Rows) (slots : List (Option CellPart)) (was : List Element) → AreBytes (document_bytes was)
    → ((name : List ℕ) (value : Plain) (x : CellPart) → reads name value ≡ Ok x → AreBytes (spelled value).bytes → PartNear value x) → AreSlots reads was rows slots
    → EachPart PartClean slots
each_clean reads [] [] was are near each = tt
each_clean reads [] (s ∷ slots) was are near each = absurd each
each_clean reads (row ∷ rows) [] was are near each = absurd each
each_clean reads (row ∷ rows) (None ∷ slots) was are near each = each_clean reads rows slots was are near each.1
each_clean reads (row ∷ rows) (Some x ∷ slots) was are near each =
    ((near row.0 each.0.0 x each.0.1.1 (named_bytes row.0 was each.0.0 are each.0.1.0)).1, each_clean reads rows slots was are near each.1)

cells_clean : (i : ℕ) (slots : List (Option CellPart)) → EachPart PartClean slots → cells_fault (cells_from i slots) ≡ None
cells_clean i [] each = refl
cells_clean i (None ∷ slots) each = cells_clean (i + 1) slots each
cells_clean i (Some (part.Id id) ∷ slots) each = cells_clean (i + 1) slots each.1
cells_clean i (Some (part.Cell cell) ∷ slots) each = ap (λ f. option_or f (cells_fault (cells_from (i + 1) slots))) each.0 ∙ cells_clean (i + 1) slots each.1

-- documents of cells
pub doc_written_near : (fields : List Field) (was : List Element) (doc : Doc) → doc_of fields was ≡ Ok doc → Distinct (doc_rows fields) → AreBytes (document_bytes was)
    → AreNear was (doc_elements fields doc.id doc.cells) × (cells_fault doc.cells ≡ None)
doc_written_near fields was doc is apart are =
    let found = doc_slots fields was doc is apart in
    let reads = doc_reads fields in
    let rows = doc_rows fields in
    let all : List (Option CellPart) = Some (part.Id doc.id) ∷ found.rest in
    let near : AreNear was (written spell rows all) = written_near reads spell rows all was apart are (λ name value x read bytes. (doc_part_near fields name value x read bytes).0) found.each in
    let clean = each_clean reads rows all was are (λ name value x read bytes. doc_part_near fields name value x read bytes) found.each in
    (subst (AreNear was) (sym found.same) near, ap cells_fault found.cells ∙ cells_clean 0 found.rest clean.1)

pub set_written_near : (fields : List Field) (was : List Element) (set : List (ℕ × SentCell)) → set_of fields was ≡ Ok set → Distinct (field_rows fields) → AreBytes (document_bytes was)
    → AreNear was (cell_elements fields set) × (cells_fault set ≡ None)
set_written_near fields was set is apart are =
    let found = set_slots fields was set is in
    let reads = set_reads fields in
    let rows = field_rows fields in
    let near : AreNear was (written spell rows found.slots) = written_near reads spell rows found.slots was apart are (λ name value x read bytes. (set_part_near fields name value x read bytes).0) found.each in
    let clean = each_clean reads rows found.slots was are (λ name value x read bytes. set_part_near fields name value x read bytes) found.each in
    (subst (AreNear was) (sym found.same) near, ap cells_fault found.cells ∙ cells_clean 0 found.slots clean)
