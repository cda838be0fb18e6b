-- What stands in a field of a document: an id, a value or a payload; and the field that a path names.
use Rattle.std.specs.Prelude.{ℕ, true, false, List, map, codes, Option, None, Some, Result, Ok, if◌then◌else◌}
use Rattle.qe_value.specs.declared.value.Value.{Value}
use Rattle.qe_field.specs.declared.field.Field.{Field}
use Rattle.qe_field.specs.declared.field.FieldKind.{FieldKind}
use Rattle.qe_field.specs.declared.field.FieldKind.TheVariants as k
use Rattle.qe_field.specs.Lookup.{is_encrypted}
use Rattle.qe_field.specs.Values.{is_id}
use Rattle.qe_layout.specs.declared.malformed.Kind.TheVariants.{NotInSchema, WrongType}
use Rattle.qe_layout.specs.Layouts.{Reader, Rows}
use Rattle.qe_layout.specs.Refusal.{Refusal, wrong, map_read}
use Rattle.qe_command.specs.declared.cells.SentCell.{SentCell}
use Rattle.qe_command.specs.declared.cells.SentCell.TheVariants as sent
use Rattle.qe_command_parts.specs.Payloads.{insert_reads_of}
use Rattle.qe_command_parts.specs.Values.{value_of}

abbrev pub id_name : List ℕ
id_name = codes "_id"

-- an id
abbrev pub id_reads : Reader Value
id_reads name value = if is_id value then Ok (value_of value) else wrong name WrongType

-- what stands in a field: a plain value as it is, or a payload
abbrev pub sent_reads : FieldKind → Reader SentCell
sent_reads k.Plain name value = Ok (sent.Plain (value_of value))
sent_reads (k.Equality id kind _ greatest) name value = map_read (λ payload. sent.Payload payload) (insert_reads_of false id kind greatest name value)
sent_reads (k.Range id kind _ greatest _) name value = map_read (λ payload. sent.Payload payload) (insert_reads_of true id kind greatest name value)

-- a row for each field, which may lack
abbrev pub field_rows : List Field → Rows
field_rows fields = map (λ field. (field.path, None)) fields

-- an encrypted field's number
abbrev pub encrypted_among : List ℕ → Option (ℕ × FieldKind) → Result (ℕ × FieldKind) Refusal
encrypted_among name None = wrong name NotInSchema
encrypted_among name (Some found) = if is_encrypted found.1 then Ok found else wrong name NotInSchema
