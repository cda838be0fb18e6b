-- The documents of commands: `op` says which, and each has elements of its own.
use Rattle.std.specs.Prelude.{◌≡◌, ℕ, ℤ, pos, nat_abs, nat_lt, ◌&&◌, int_le, Bool, false, List, [], ◌∷◌, map, length, slice_get, bytes_eq, codes, Option, None, Some, Result, Ok, if◌then◌else◌}
use Rattle.qe_base.specs.Bytes.{AreBytes}
use Rattle.qe_base.specs.declared.maintenance.JobKind.{JobKind}
use Rattle.qe_base.specs.declared.maintenance.JobKind.TheVariants.{Compact, Cleanup}
use Rattle.qe_document.specs.Names.{is_named, value_named}
use Rattle.qe_document.specs.Spelling.{Begins}
use Rattle.qe_value.specs.declared.value.Plain.{Plain}
use Rattle.qe_value.specs.declared.value.Plain.TheVariants as p
use Rattle.qe_value.specs.declared.value.Value.TheVariants as v
use Rattle.qe_tokens.specs.declared.words.FieldToken.{FieldToken}
use Rattle.qe_field.specs.declared.field.Field.{Field}
use Rattle.qe_field.specs.Lookup.{known, greatest_of}
use Rattle.qe_field.specs.Values.{text_in}
use Rattle.qe_layout.specs.declared.malformed.Kind.TheVariants.{BadLimit, ContentionAbove, Missing, Unknown, UnknownOp}
use Rattle.qe_layout.specs.Blobs.{alone}
use Rattle.qe_layout.specs.Documents.{document_reads, of_type}
use Rattle.qe_layout.specs.Layouts.{Element, Reader, Rows, in_slot, built, IsBuilt}
use Rattle.qe_layout.specs.Leaves.{int32_reads, natural_reads}
use Rattle.qe_layout.specs.Refusal.{Refusal, wrong, bind, map_read}
use Rattle.qe_command.specs.declared.cells.SentCell.{SentCell}
use Rattle.qe_command.specs.declared.command.Command.{Command}
use Rattle.qe_command.specs.declared.command.Command.TheVariants as c
use Rattle.qe_command.specs.declared.filter.SentTerm.{SentTerm}
use Rattle.qe_command_document.specs.declared.part.Doc.{Doc}
use Rattle.qe_command_document.specs.declared.part.Op.{Op}
use Rattle.qe_command_document.specs.declared.part.Op.TheVariants as op
use Rattle.qe_command_document.specs.declared.part.Part.{Part}
use Rattle.qe_command_document.specs.declared.part.Part.TheVariants as part
use Rattle.qe_command_document.specs.CellDocuments.{doc_of, set_of, tokens_of, encrypted_among}
use Rattle.qe_command_parts.specs.FilterArrays.{filter_reads}

-- which command a name is
unfoldable pub op_named : List ℕ → Option Op
op_named name =
    if bytes_eq name (codes "insert") then Some op.Insert
    else (if bytes_eq name (codes "find") then Some op.Find
    else (if bytes_eq name (codes "update") then Some op.Update
    else (if bytes_eq name (codes "delete") then Some op.Delete
    else (if bytes_eq name (codes "begin") then Some op.Begin
    else (if bytes_eq name (codes "step") then Some op.Step
    else (if bytes_eq name (codes "end") then Some op.End
    else (if bytes_eq name (codes "abandon") then Some op.Abandon
    else (if bytes_eq name (codes "raise") then Some op.Raise else None))))))))

abbrev pub op_name : List ℕ
op_name = codes "op"

abbrev pub some_op : Option Op → Result Op Refusal
some_op None = wrong op_name UnknownOp
some_op (Some which) = Ok which

-- `op` is looked for first: it is there, a string, and known
abbrev pub op_in : Option Plain → Result Op Refusal
op_in None = wrong op_name Missing
op_in (Some value) = bind (of_type op_name (text_in value)) (λ name. some_op (op_named name))

abbrev pub op_of : List Element → Result Op Refusal
op_of elements = op_in (value_named op_name elements)

-- the further elements of each
abbrev pub names_of : Op → List (List ℕ)
names_of op.Insert = codes "doc" ∷ []
names_of op.Find = codes "filter" ∷ codes "ids" ∷ []
names_of op.Update = codes "filter" ∷ codes "set" ∷ []
names_of op.Delete = codes "filter" ∷ []
names_of op.Begin = codes "kind" ∷ codes "tokens" ∷ []
names_of op.Step = codes "job" ∷ codes "limit" ∷ []
names_of op.End = codes "job" ∷ []
names_of op.Abandon = codes "job" ∷ []
names_of op.Raise = codes "field" ∷ codes "contention" ∷ []

-- they are needed; `op` may stand at any place
abbrev pub element_rows : Op → Rows
element_rows which = map (λ name. (name, Some Missing)) (names_of which)

abbrev pub command_rows : Op → Rows
command_rows which = (op_name, None) ∷ element_rows which

-- a bool
abbrev pub flag_in : Plain → Option Bool
flag_in (p.Bool b) = Some b
flag_in _ = None

-- a kind of job
abbrev pub kind_named : List ℕ → Option JobKind
kind_named name =
    if bytes_eq name (codes "compact") then Some Compact else (if bytes_eq name (codes "cleanup") then Some Cleanup else None)

abbrev pub kind_reads : Reader JobKind
kind_reads name value = bind (of_type name (text_in value)) (λ text. of_type name (kind_named text))

-- a limit of 1 to 65,536 units
abbrev pub limit_within : List ℕ → ℤ → Result ℕ Refusal
limit_within name limit = if int_le (pos 1) limit && int_le limit (pos 65536) then Ok (nat_abs limit) else wrong name (BadLimit limit)

abbrev pub limit_reads : Reader ℕ
limit_reads name value = bind (int32_reads name value) (limit_within name)

-- an encrypted field, by its path
abbrev pub named_field : List Field → List ℕ → List ℕ → Result ℕ Refusal
named_field fields name path = map_read (λ found. found.0) (encrypted_among name (known fields path))

abbrev pub path_reads : List Field → Reader ℕ
path_reads fields name value = bind (of_type name (text_in value)) (named_field fields name)

-- how each further element is read: numbers and names,
unfoldable pub plain_reads : List Field → Reader Part
plain_reads fields name value =
    if bytes_eq name (codes "ids") then map_read (λ ids. part.Ids ids) (of_type name (flag_in value))
    else (if bytes_eq name (codes "kind") then map_read (λ kind. part.Kind kind) (kind_reads name value)
    else (if bytes_eq name (codes "limit") then map_read (λ limit. part.Limit limit) (limit_reads name value)
    else (if bytes_eq name (codes "field") then map_read (λ field. part.Field field) (path_reads fields name value)
    else map_read (λ number. part.Number (nat_abs number)) (natural_reads name value))))

-- documents and filters
unfoldable pub element_reads : List Field → Reader Part
element_reads fields name value =
    if bytes_eq name (codes "doc") then map_read (λ doc. part.Doc doc) (document_reads (doc_of fields) name value)
    else (if bytes_eq name (codes "set") then map_read (λ set. part.Set set) (document_reads (set_of fields) name value)
    else (if bytes_eq name (codes "filter") then map_read (λ terms. part.Filter terms) (filter_reads fields name value)
    else (if bytes_eq name (codes "tokens") then map_read (λ tokens. part.Tokens tokens) (document_reads (tokens_of fields) name value)
    else plain_reads fields name value)))

-- an element: `op`, which was read already, or one of the command's
unfoldable pub command_reads : Op → List Field → Reader Part
command_reads which fields name value =
    if bytes_eq name op_name then Ok part.Op
    else (if is_named name (element_rows which) then element_reads fields name value else wrong name Unknown)

-- what a slot holds; something else where it holds no such part, which a table's slots don't meet
abbrev pub doc_in : Option Part → Doc
doc_in (Some (part.Doc doc)) = doc
doc_in _ = record { id = v.Null; cells = [] }

abbrev pub set_in : Option Part → List (ℕ × SentCell)
set_in (Some (part.Set set)) = set
set_in _ = []

abbrev pub filter_in : Option Part → List SentTerm
filter_in (Some (part.Filter terms)) = terms
filter_in _ = []

abbrev pub ids_in : Option Part → Bool
ids_in (Some (part.Ids ids)) = ids
ids_in _ = false

abbrev pub kind_in : Option Part → JobKind
kind_in (Some (part.Kind kind)) = kind
kind_in _ = Compact

abbrev pub tokens_in : Option Part → List FieldToken
tokens_in (Some (part.Tokens tokens)) = tokens
tokens_in _ = []

abbrev pub number_in : Option Part → ℕ
number_in (Some (part.Number number)) = number
number_in _ = 0

abbrev pub limit_in : Option Part → ℕ
limit_in (Some (part.Limit limit)) = limit
limit_in _ = 0

abbrev pub field_in : Option Part → ℕ
field_in (Some (part.Field field)) = field
field_in _ = 0

-- the command of its slots, of which the first is that of `op`
abbrev pub command_build : Op → List (Option Part) → Command
command_build op.Insert slots = c.Insert (doc_in (in_slot slots 1)).id (doc_in (in_slot slots 1)).cells
command_build op.Find slots = c.Find (filter_in (in_slot slots 1)) (ids_in (in_slot slots 2))
command_build op.Update slots = c.Update (filter_in (in_slot slots 1)) (set_in (in_slot slots 2))
command_build op.Delete slots = c.Delete (filter_in (in_slot slots 1))
command_build op.Begin slots = c.Begin (kind_in (in_slot slots 1)) (tokens_in (in_slot slots 2))
command_build op.Step slots = c.Step (number_in (in_slot slots 1)) (limit_in (in_slot slots 2))
command_build op.End slots = c.End (number_in (in_slot slots 1))
command_build op.Abandon slots = c.Abandon (number_in (in_slot slots 1))
command_build op.Raise slots = c.Raise (field_in (in_slot slots 1)) (number_in (in_slot slots 2))

-- the greatest contention of a field
abbrev pub greatest_in : Option Field → ℕ
greatest_in None = 0
greatest_in (Some field) = greatest_of field.kind

abbrev pub greatest_at : List Field → ℕ → ℕ
greatest_at fields field = greatest_in (slice_get fields field)

-- a raise isn't above its field's greatest contention
abbrev pub within : List Field → Command → Result Command Refusal
within fields (c.Raise field contention) =
    if nat_lt (greatest_at fields field) contention then wrong (codes "contention") (ContentionAbove contention (greatest_at fields field))
    else Ok (c.Raise field contention)
within fields command = Ok command

-- the elements of a command: each in the order in which they stand, and then what lacks
abbrev pub elements_of : List Field → List Element → Op → Result Command Refusal
elements_of fields elements which = built (command_reads which fields) (command_rows which) (command_build which) elements

-- the command of a document's elements, or the first refusal
unfoldable pub command_of : List Field → List Element → Result Command Refusal
command_of fields elements = bind (op_of elements) (λ which. bind (elements_of fields elements which) (within fields))

-- the command of some bytes: a document and nothing after it
unfoldable pub command_at : List Field → List ℕ → Result Command Refusal
command_at fields bytes = bind (alone bytes) (command_of fields)

-- THE RELATION: the bytes are one document, whose `op` is the command's name, and which has each element of it once, in any order, and no other
pub record IsCommandDocument (fields : List Field) (command : Command) (bytes : List ℕ) : Type 0 where
  pub elements : List Element
  pub document : Begins bytes elements (length bytes)
  pub which : Op
  pub named : op_of elements ≡ Ok which
  pub laid : IsBuilt (command_reads which fields) (command_rows which) (command_build which) command elements
  pub raise : within fields command ≡ Ok command

-- a command fits a schema where there is such a document of it
pub record Fits (fields : List Field) (command : Command) : Type 0 where
  pub bytes : List ℕ
  pub are_bytes : AreBytes bytes
  pub laid : IsCommandDocument fields command bytes
