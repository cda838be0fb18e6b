-- Documents with an element for each field: of values, and of tokens.
use Rattle.std.specs.Prelude.{ℕ, ◌+◌, ◌||◌, List, [], ◌∷◌, ◌++◌, drop, bytes_eq, Option, None, Some, Result, if◌then◌else◌}
use Rattle.qe_value.specs.declared.value.Value.{Value}
use Rattle.qe_value.specs.declared.value.Value.TheVariants as v
use Rattle.qe_field.specs.declared.field.Field.{Field}
use Rattle.qe_field.specs.declared.field.FieldKind.{FieldKind}
use Rattle.qe_field.specs.Lookup.{known}
use Rattle.qe_field.specs.Names.{is_reserved}
use Rattle.qe_layout.specs.declared.malformed.Kind.TheVariants.{Missing, NotInSchema, ReservedName}
use Rattle.qe_layout.specs.Layouts.{Element, Reader, Rows, in_slot, built}
use Rattle.qe_layout.specs.Refusal.{Refusal, wrong, map_read}
use Rattle.qe_command.specs.declared.cells.SentCell.{SentCell}
pub use Rattle.qe_command_parts.specs.Fields.{id_name, id_reads, sent_reads, field_rows, encrypted_among}
pub use Rattle.qe_command_parts.specs.TokenDocuments.{token_at, tokens_from}
unfoldable pub use Rattle.qe_command_parts.specs.TokenDocuments.{token_reads, tokens_of}
use Rattle.qe_command_document.specs.declared.part.CellPart.{CellPart}
use Rattle.qe_command_document.specs.declared.part.CellPart.TheVariants as part
use Rattle.qe_command_document.specs.declared.part.Doc.{Doc}

abbrev pub field_reads : Option (ℕ × FieldKind) → Reader CellPart
field_reads None name value = wrong name NotInSchema
field_reads (Some found) name value = map_read (λ cell. part.Cell cell) (sent_reads found.1 name value)

-- an element of a document that is inserted, in this order: a reserved name, the id, and the fields of the schema
unfoldable pub doc_reads : List Field → Reader CellPart
doc_reads fields name value =
    if is_reserved name then wrong name ReservedName
    else (if bytes_eq name id_name then map_read (λ id. part.Id id) (id_reads name value)
    else field_reads (known fields name) name value)

-- of a set, which may not have an id
unfoldable pub set_reads : List Field → Reader CellPart
set_reads fields name value =
    if is_reserved name || bytes_eq name id_name then wrong name ReservedName else field_reads (known fields name) name value

abbrev pub doc_rows : List Field → Rows
doc_rows fields = (id_name, Some Missing) ∷ field_rows fields

-- the cell in a field's slot
abbrev pub cell_at : ℕ → Option CellPart → List (ℕ × SentCell)
cell_at i (Some (part.Cell cell)) = (i, cell) ∷ []
cell_at i _ = []

-- the cells in the fields' slots, where the first one's number is given
abbrev pub cells_from : ℕ → List (Option CellPart) → List (ℕ × SentCell)
cells_from i [] = []
cells_from i (slot ∷ slots) = cell_at i slot ++ cells_from (i + 1) slots

abbrev pub id_in : Option CellPart → Value
id_in (Some (part.Id id)) = id
id_in _ = v.Null

abbrev pub doc_build : List (Option CellPart) → Doc
doc_build slots = record { id = id_in (in_slot slots 0); cells = cells_from 0 (drop 1 slots) }

-- the document of some elements, or the first refusal
unfoldable pub doc_of : List Field → List Element → Result Doc Refusal
doc_of fields elements = built (doc_reads fields) (doc_rows fields) doc_build elements

unfoldable pub set_of : List Field → List Element → Result (List (ℕ × SentCell)) Refusal
set_of fields elements = built (set_reads fields) (field_rows fields) (cells_from 0) elements
