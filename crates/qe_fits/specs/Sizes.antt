-- How many bytes a command's document has, counted over the plain command (bsonspec.org, BSON 1.1, and the payloads of
-- MongoDB's Queryable Encryption). The count doesn't depend on what is drawn.
use Rattle.std.specs.Prelude.{ℕ, ℤ, ◌+◌, ◌*◌, ◌/◌, List, [], ◌∷◌, ◌++◌, map, replicate, length, codes, Option, None, Some, slice_get}
use Rattle.qe_value.specs.declared.value.Plain.{Plain}
use Rattle.qe_value.specs.Measures.{value_length, fields_length, items_length}
use Rattle.qe_edges.specs.Rules.{Rules}
use Rattle.qe_edges.specs.Prefixes.{edges_of, cover_of}
use Rattle.qe_base.specs.declared.maintenance.JobKind.{JobKind}
use Rattle.qe_base.specs.declared.maintenance.JobKind.TheVariants as j
use Rattle.qe_field.specs.declared.field.Field.{Field}
use Rattle.qe_field.specs.declared.field.FieldKind.{FieldKind}
use Rattle.qe_field.specs.declared.field.FieldKind.TheVariants as k
use Rattle.qe_field.specs.Lookup.{path_of}
use Rattle.qe_field.specs.Values.{number_in}
use Rattle.qe_plain.specs.declared.command.Pair.{Pair}
use Rattle.qe_plain.specs.declared.command.PlainCell.{PlainCell}
use Rattle.qe_plain.specs.declared.command.PlainCommand.{PlainCommand}
use Rattle.qe_plain.specs.declared.command.PlainCommand.TheVariants as c
use Rattle.qe_plain.specs.declared.command.PlainDocument.{PlainDocument}
use Rattle.qe_plain.specs.declared.command.Term.{Term}
use Rattle.qe_plain.specs.declared.command.Term.TheVariants as t

-- an element that is to be written: its name, and the bytes behind the name
abbrev pub Counted : Type 0
Counted = List ℕ × ℕ

-- a document of these elements, an array of so long items, a string and a binary
abbrev pub document_size : List Counted → ℕ
document_size elements = fields_length elements + 5

abbrev pub array_size : List ℕ → ℕ
array_size sizes = items_length 0 sizes + 5

-- .. an array of so many items of one size
abbrev pub array_of : ℕ → ℕ → ℕ
array_of count size = array_size (replicate count size)

abbrev pub string_size : List ℕ → ℕ
string_size text = length text + 5

abbrev pub binary_size : ℕ → ℕ
binary_size count = count + 5

-- tokens of 32 bytes
abbrev pub token : List ℕ → Counted
token name = (name, binary_size 32)

abbrev pub three_tokens : List Counted
three_tokens = token (codes "d") ∷ token (codes "s") ∷ token (codes "l") ∷ []

-- a sealed value of so many bytes: its IV, whole blocks with their padding, and the MAC
abbrev pub sealed_size : ℕ → ℕ
sealed_size count = 64 + 16 * (count / 16)

-- an edge of an insert's payload; its `p` counts 49
abbrev pub edge_size : ℕ
edge_size = document_size (three_tokens ++ (codes "p", binary_size 49) ∷ [])

-- the edges, where a payload has them: so many
abbrev pub edges_element : Option ℕ → List Counted
edges_element None = []
edges_element (Some count) = (codes "g", array_of count edge_size) ∷ []

-- the payload of an encrypted value of so many bytes; its first byte stands before the document
abbrev pub insert_size : ℕ → Option ℕ → ℕ
insert_size count edges = 1 + document_size (
    three_tokens ++ token (codes "e") ∷ (codes "p", binary_size 48) ∷ (codes "u", binary_size 16) ∷ (codes "t", 4)
    ∷ (codes "v", binary_size (16 + sealed_size count)) ∷ (codes "k", 8) ∷ edges_element edges)

abbrev pub count_of_edges : Rules → Option ℤ → ℕ
count_of_edges domain None = 0
count_of_edges domain (Some z) = length (edges_of domain z)

-- what stands in a field
abbrev pub kept_size : FieldKind → Plain → ℕ
kept_size k.Plain value = value_length value
kept_size (k.Equality _ _ _ _) value = binary_size (insert_size (value_length value) None)
kept_size (k.Range _ _ _ _ domain) value = binary_size (insert_size (value_length value) (Some (count_of_edges domain (number_in value))))

abbrev pub cell_element : PlainCell → Option Field → List Counted
cell_element cell None = []
cell_element cell (Some field) = (field.path, kept_size field.kind cell.value) ∷ []

abbrev pub cell_elements : List Field → List PlainCell → List Counted
cell_elements fields [] = []
cell_elements fields (cell ∷ cells) = cell_element cell (slice_get fields cell.field) ++ cell_elements fields cells

abbrev pub inserted_size : List Field → PlainDocument → ℕ
inserted_size fields document = document_size ((codes "_id", value_length document.id) ∷ cell_elements fields document.cells)

-- the payload of an equality term
abbrev pub equal_size : ℕ
equal_size = 1 + document_size (three_tokens ++ (codes "cm", 8) ∷ [])

-- the payload of an interval, with so many prefixes of its cover
abbrev pub range_size : ℕ → ℕ
range_size count = 1 + document_size (
    (codes "payload", document_size ((codes "g", array_of count (document_size three_tokens)) ∷ (codes "cm", 8) ∷ []))
    ∷ (codes "payloadId", 4) ∷ (codes "firstOperator", 4) ∷ (codes "secondOperator", 4) ∷ [])

abbrev pub count_of_cover : FieldKind → ℤ → ℤ → ℕ
count_of_cover (k.Range _ _ _ _ domain) lo hi = length (cover_of domain lo hi)
count_of_cover _ lo hi = 0

-- a term is a document of one element
abbrev pub one_element : List ℕ → ℕ → ℕ
one_element name size = document_size ((name, size) ∷ [])

abbrev pub equal_term_size : Option Field → ℕ
equal_term_size None = 0
equal_term_size (Some field) = one_element field.path (binary_size equal_size)

abbrev pub range_term_size : ℤ → ℤ → Option Field → ℕ
range_term_size lo hi None = 0
range_term_size lo hi (Some field) = one_element field.path (binary_size (range_size (count_of_cover field.kind lo hi)))

abbrev pub term_size : List Field → Term → ℕ
term_size fields (t.Id value) = one_element (codes "_id") (value_length value)
term_size fields (t.Equal field value) = equal_term_size (slice_get fields field)
term_size fields (t.Between field lo hi) = range_term_size lo hi (slice_get fields field)

abbrev pub filter_size : List Field → List Term → ℕ
filter_size fields terms = array_size (map (term_size fields) terms)

abbrev pub pair_element : List Field → Pair → Counted
pair_element fields pair = token (path_of fields pair.field)

abbrev pub kind_name : JobKind → List ℕ
kind_name j.Compact = codes "compact"
kind_name j.Cleanup = codes "cleanup"

abbrev pub op : List ℕ → Counted
op name = (codes "op", string_size name)

abbrev pub job : Counted
job = (codes "job", 8)

-- the elements of a command's document
abbrev pub command_elements : List Field → PlainCommand → List Counted
command_elements fields (c.Insert document) = op (codes "insert") ∷ (codes "doc", inserted_size fields document) ∷ []
command_elements fields (c.Find terms ids) = op (codes "find") ∷ (codes "filter", filter_size fields terms) ∷ (codes "ids", 1) ∷ []
command_elements fields (c.Update terms set) =
    op (codes "update") ∷ (codes "filter", filter_size fields terms) ∷ (codes "set", document_size (cell_elements fields set)) ∷ []
command_elements fields (c.Delete terms) = op (codes "delete") ∷ (codes "filter", filter_size fields terms) ∷ []
command_elements fields (c.Begin kind pairs) =
    op (codes "begin") ∷ (codes "kind", string_size (kind_name kind)) ∷ (codes "tokens", document_size (map (pair_element fields) pairs)) ∷ []
command_elements fields (c.Step number limit) = op (codes "step") ∷ job ∷ (codes "limit", 4) ∷ []
command_elements fields (c.End number) = op (codes "end") ∷ job ∷ []
command_elements fields (c.Abandon number) = op (codes "abandon") ∷ job ∷ []
command_elements fields (c.Raise field contention) =
    op (codes "raise") ∷ (codes "field", string_size (path_of fields field)) ∷ (codes "contention", 8) ∷ []

-- the counted length
unfoldable pub counted_length : List Field → PlainCommand → ℕ
counted_length fields command = document_size (command_elements fields command)
