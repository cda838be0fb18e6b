-- Command documents as they are written: elements in the tables' order, cells and tokens in schema order, and terms in
-- the filter's.
use Rattle.std.specs.Prelude.{ℕ, pos, List, [], ◌∷◌, map, codes}
use Rattle.qe_base.specs.declared.maintenance.JobKind.{JobKind}
use Rattle.qe_base.specs.declared.maintenance.JobKind.TheVariants.{Compact, Cleanup}
use Rattle.qe_value.specs.declared.value.Plain.{Plain}
use Rattle.qe_value.specs.declared.value.Plain.TheVariants as p
use Rattle.qe_value.specs.declared.value.Value.{Value}
use Rattle.qe_document.specs.Views.{plain}
use Rattle.qe_tokens.specs.declared.words.FieldToken.{FieldToken}
use Rattle.qe_field.specs.declared.field.Field.{Field}
use Rattle.qe_field.specs.Lookup.{path_of}
use Rattle.qe_layout.specs.Layouts.{Element}
use Rattle.qe_insert.specs.Insert.{written_insert}
use Rattle.qe_find.specs.Equal.{written_equal}
use Rattle.qe_find.specs.Range.{written_range}
use Rattle.qe_command.specs.declared.cells.SentCell.{SentCell}
use Rattle.qe_command.specs.declared.cells.SentCell.TheVariants as sent
use Rattle.qe_command.specs.declared.command.Command.{Command}
use Rattle.qe_command.specs.declared.command.Command.TheVariants as c
use Rattle.qe_command.specs.declared.filter.SentTerm.{SentTerm}
use Rattle.qe_command.specs.declared.filter.SentTerm.TheVariants as t
use Rattle.qe_command_document.specs.CellDocuments.{id_name}
use Rattle.qe_command_document.specs.CommandDocument.{op_name}

-- a payload is a binary of subtype 6
abbrev pub cell_value : SentCell → Plain
cell_value (sent.Plain value) = plain value
cell_value (sent.Payload payload) = p.Binary 6 (written_insert payload)

abbrev pub cell_element : List Field → ℕ × SentCell → Element
cell_element fields cell = (path_of fields cell.0, cell_value cell.1)

abbrev pub cell_elements : List Field → List (ℕ × SentCell) → List Element
cell_elements fields cells = map (cell_element fields) cells

-- the id, and then the cells
abbrev pub doc_elements : List Field → Value → List (ℕ × SentCell) → List Element
doc_elements fields id cells = (id_name, plain id) ∷ cell_elements fields cells

abbrev pub term_name : List Field → SentTerm → List ℕ
term_name fields (t.Id id) = id_name
term_name fields (t.Equal field payload) = path_of fields field
term_name fields (t.Range field payload) = path_of fields field

abbrev pub sought_value : SentTerm → Plain
sought_value (t.Id id) = plain id
sought_value (t.Equal field payload) = p.Binary 6 (written_equal payload)
sought_value (t.Range field payload) = p.Binary 6 (written_range payload)

-- each term is a document of one element
abbrev pub term_value : List Field → SentTerm → Plain
term_value fields term = p.Doc ((term_name fields term, sought_value term) ∷ [])

abbrev pub filter_value : List Field → List SentTerm → Plain
filter_value fields terms = p.Array (map (term_value fields) terms)

abbrev pub token_element : List Field → FieldToken → Element
token_element fields token = (path_of fields token.field, p.Binary 0 token.token.0)

abbrev pub token_elements : List Field → List FieldToken → List Element
token_elements fields tokens = map (token_element fields) tokens

abbrev pub kind_name : JobKind → List ℕ
kind_name Compact = codes "compact"
kind_name Cleanup = codes "cleanup"

-- `op`, and then the command's elements
abbrev pub with_op : List ℕ → List Element → List Element
with_op name elements = (op_name, p.Str name) ∷ elements

unfoldable pub command_elements : List Field → Command → List Element
command_elements fields (c.Insert id cells) = with_op (codes "insert") ((codes "doc", p.Doc (doc_elements fields id cells)) ∷ [])
command_elements fields (c.Find filter ids) = with_op (codes "find") ((codes "filter", filter_value fields filter) ∷ (codes "ids", p.Bool ids) ∷ [])
command_elements fields (c.Update filter set) =
    with_op (codes "update") ((codes "filter", filter_value fields filter) ∷ (codes "set", p.Doc (cell_elements fields set)) ∷ [])
command_elements fields (c.Delete filter) = with_op (codes "delete") ((codes "filter", filter_value fields filter) ∷ [])
command_elements fields (c.Begin kind tokens) =
    with_op (codes "begin") ((codes "kind", p.Str (kind_name kind)) ∷ (codes "tokens", p.Doc (token_elements fields tokens)) ∷ [])
command_elements fields (c.Step job limit) = with_op (codes "step") ((codes "job", p.Int64 (pos job)) ∷ (codes "limit", p.Int32 (pos limit)) ∷ [])
command_elements fields (c.End job) = with_op (codes "end") ((codes "job", p.Int64 (pos job)) ∷ [])
command_elements fields (c.Abandon job) = with_op (codes "abandon") ((codes "job", p.Int64 (pos job)) ∷ [])
command_elements fields (c.Raise field contention) =
    with_op (codes "raise") ((codes "field", p.Str (path_of fields field)) ∷ (codes "contention", p.Int64 (pos contention)) ∷ [])
