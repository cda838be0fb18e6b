-- The dump of a state: lines of a word and what follows it after a space. Bytes are hex digits, numbers decimal.
use Rattle.std.specs.Prelude.{ℕ, ◌+◌, ◌==◌, List, [], ◌∷◌, ◌++◌, flat_map, slice_get, codes, Option, None, Some, Result, Ok, Err, if◌then◌else◌}
use Rattle.std.specs.Fmt.{decimal}
use Rattle.std.specs.FinMap.{entries}
use Rattle.hex.specs.Hex.{encode_lower}
use Rattle.serde_json.specs.Written.{compact_text}
use Rattle.qe_base.specs.declared.maintenance.JobKind.{JobKind}
use Rattle.qe_base.specs.declared.maintenance.JobKind.TheVariants.{Compact, Cleanup}
use Rattle.qe_value.specs.declared.value.Value.{Value}
use Rattle.qe_value.specs.Views.{plain}
use Rattle.qe_value.specs.Types.{type_byte}
use Rattle.qe_value.specs.Spelling.{spelled}
use Rattle.qe_encode.specs.Writing.{value_encoded}
use Rattle.qe_bson.specs.JsonWriting.{json_of}
use Rattle.qe_field.specs.declared.field.Field.{Field}
use Rattle.qe_ecoc.specs.declared.rows.Entry.{Entry}
use Rattle.qe_ecoc.specs.Forms.{cipher_bytes}
use Rattle.qe_store.specs.declared.stored.Cell.{Cell}
use Rattle.qe_store.specs.declared.stored.Cell.TheVariants as kept
use Rattle.qe_store.specs.declared.stored.Stored.{Stored}
use Rattle.qe_protocol.specs.State.{Job, Jobs, State}
use Rattle.qe_protocol.specs.Contention.{current_of}
use Rattle.qe_protocol.specs.Journal.{first_contention}

abbrev pub line : List ℕ → List ℕ → List ℕ
line word text = word ++ (codes " " ++ (text ++ codes "\n"))

-- two texts with a space between them
abbrev pub spaced : List ℕ → List ℕ → List ℕ
spaced first second = first ++ (codes " " ++ second)

-- a position, or an anchor with its value
abbrev pub row_text : List ℕ → Option (List ℕ) → List ℕ
row_text id None = line (codes "p") (encode_lower id)
row_text id (Some value) = line (codes "a") (spaced (encode_lower id) (encode_lower value))

abbrev pub row_line : List ℕ × Option (List ℕ) → List ℕ
row_line row = row_text row.0 row.1

-- the path of a field, and the empty one where there is no field of the number
abbrev pub path_in : Option Field → List ℕ
path_in None = []
path_in (Some field) = field.path

abbrev pub path_of : List Field → ℕ → List ℕ
path_of fields number = path_in (slice_get fields number)

-- a row for compaction
abbrev pub entry_line : List Field → List ℕ → Entry → List ℕ
entry_line fields word entry = line word (spaced (path_of fields entry.field) (encode_lower (cipher_bytes entry.value)))

-- an identifier or a tag
abbrev pub id_line : List ℕ → List ℕ → List ℕ
id_line word id = line word (encode_lower id)

-- the job that runs, with the leaves that it has handled
abbrev pub kind_word : JobKind → List ℕ
kind_word Compact = codes "compact"
kind_word Cleanup = codes "cleanup"

abbrev pub job_text : ℕ → JobKind → ℕ → List ℕ
job_text number kind leaves = line (codes "j") (spaced (spaced (decimal number) (kind_word kind)) (decimal leaves))

abbrev pub job_line : Option Job → List ℕ
job_line None = []
job_line (Some job) = job_text job.number job.kind job.leaves

-- the last job's number, where one has begun
abbrev pub last_line : ℕ → List ℕ
last_line last = if last == 0 then [] else line (codes "n") (decimal last)

-- a field's contention, where it isn't the first one
abbrev pub contention_line : Field → ℕ → List ℕ
contention_line field current =
    if current == first_contention field.kind then [] else line (codes "k") (spaced field.path (decimal current))

abbrev pub contention_lines : List ℕ → ℕ → List Field → List ℕ
contention_lines current number [] = []
contention_lines current number (field ∷ fields) =
    contention_line field (current_of current number) ++ contention_lines current (number + 1) fields

-- the JSON of an id, and nothing for a value that has none, as no id has
abbrev pub json_text : {D E : Type 0} → (D → List ℕ) → Result D E → List ℕ
json_text text (Ok json) = text json
json_text text (Err fault) = []

abbrev pub value_json : Value → List ℕ
value_json value = json_text compact_text (json_of (plain value))

-- the bytes of a plain value with its type before them, and nothing behind it for a value that has none, as none has that came in a command
abbrev pub bytes_or_none : {E : Type 0} → Result (List ℕ) E → List ℕ
bytes_or_none (Ok bytes) = bytes
bytes_or_none (Err fault) = []

abbrev pub cell_bytes : Cell → List ℕ
cell_bytes (kept.Plain value) = type_byte (spelled (plain value)).kind ∷ bytes_or_none (value_encoded (plain value))
cell_bytes (kept.Indexed bytes) = bytes

abbrev pub cell_line : List Field → ℕ × Cell → List ℕ
cell_line fields cell = line (codes "f") (spaced (path_of fields cell.0) (encode_lower (cell_bytes cell.1)))

abbrev pub document_lines : List Field → Stored → List ℕ
document_lines fields stored =
    line (codes "doc") (value_json stored.id) ++ (flat_map (cell_line fields) stored.cells ++ flat_map (id_line (codes "t")) stored.tags)

-- all lines of a state: rows by rising identifier, rows for compaction and those aside, captured and doomed identifiers, the job and the
-- last number, contentions that were raised, and documents
abbrev pub work_lines : List Field → Jobs → List ℕ
work_lines fields jobs =
    flat_map (entry_line fields (codes "s")) jobs.aside
    ++ (flat_map (id_line (codes "c")) jobs.captured ++ (flat_map (id_line (codes "d")) jobs.doomed ++ (job_line jobs.job ++ last_line jobs.last)))

abbrev pub dump_of : List Field → State → List ℕ
dump_of fields state =
    flat_map row_line (entries state.index.rows)
    ++ (flat_map (entry_line fields (codes "e")) state.index.ecoc
    ++ (work_lines fields state.jobs
    ++ (contention_lines state.current 0 fields ++ flat_map (document_lines fields) state.docs)))
