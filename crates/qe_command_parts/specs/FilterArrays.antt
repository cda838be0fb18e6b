-- Filters: arrays of documents of one element each.
use Rattle.std.specs.Prelude.{ℕ, List, [], ◌∷◌, bytes_eq, Option, None, Some, Result, if◌then◌else◌}
use Rattle.qe_field.specs.declared.field.Field.{Field}
use Rattle.qe_field.specs.declared.field.FieldKind.{FieldKind}
use Rattle.qe_field.specs.declared.field.FieldKind.TheVariants as k
use Rattle.qe_field.specs.Lookup.{known}
use Rattle.qe_field.specs.Names.{is_reserved}
use Rattle.qe_layout.specs.declared.malformed.Kind.TheVariants.{NotInSchema, ReservedName, WrongType}
use Rattle.qe_document.specs.Views.{fields_of}
use Rattle.qe_layout.specs.Documents.{of_type, items_reads}
use Rattle.qe_layout.specs.Layouts.{Element, Reader}
use Rattle.qe_layout.specs.Refusal.{Refusal, wrong, bind, map_read, read_inside}
use Rattle.qe_command.specs.declared.filter.SentTerm.{SentTerm}
use Rattle.qe_command.specs.declared.filter.SentTerm.TheVariants as t
use Rattle.qe_command_parts.specs.Fields.{id_name, id_reads}
use Rattle.qe_command_parts.specs.Payloads.{equal_reads_of, range_reads_of}

-- a term of a field: an equality field's, or a range field's
abbrev pub found_reads : Option (ℕ × FieldKind) → Reader SentTerm
found_reads None name value = wrong name NotInSchema
found_reads (Some (field, k.Plain)) name value = wrong name NotInSchema
found_reads (Some (field, k.Equality _ _ _ greatest)) name value = map_read (λ payload. t.Equal field payload) (equal_reads_of greatest name value)
found_reads (Some (field, k.Range _ _ _ greatest _)) name value = map_read (λ payload. t.Range field payload) (range_reads_of greatest name value)

unfoldable pub term_reads : List Field → Reader SentTerm
term_reads fields name value =
    if is_reserved name then wrong name ReservedName
    else (if bytes_eq name id_name then map_read (λ id. t.Id id) (id_reads name value)
    else found_reads (known fields name) name value)

-- exactly one element
abbrev pub one_read : List Field → List ℕ → List Element → Result SentTerm Refusal
one_read fields index (e ∷ []) = read_inside index (term_reads fields e.0 e.1)
one_read fields index _ = wrong index WrongType

unfoldable pub term_item : List Field → Reader SentTerm
term_item fields index value = bind (of_type index (fields_of value)) (one_read fields index)

abbrev pub filter_reads : List Field → Reader (List SentTerm)
filter_reads fields name value = items_reads (term_item fields) name value
