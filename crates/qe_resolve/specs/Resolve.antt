-- A command under a schema, or the first fault.
use Rattle.std.specs.Prelude.{ℕ, ◌&&◌, List, codes, nat_le, Result, Ok, Err, if◌then◌else◌, true, false}
use Rattle.qe_value.specs.declared.value.Plain.{Plain}
use Rattle.qe_value.specs.Names.{value_named}
use Rattle.qe_field.specs.declared.field.Field.{Field}
use Rattle.qe_field.specs.declared.field.FieldKind.{FieldKind}
use Rattle.qe_filter.specs.declared.fault.PlainFault.{PlainFault}
use Rattle.qe_filter.specs.declared.fault.PlainFault.TheVariants as f
use Rattle.qe_plain.specs.declared.command.PlainCommand.{PlainCommand}
use Rattle.qe_plain.specs.declared.command.PlainCommand.TheVariants as c
use Rattle.qe_plain.specs.declared.command.PlainDocument.{PlainDocument}
use Rattle.qe_plain.specs.declared.command.RawCommand.{RawCommand}
use Rattle.qe_plain.specs.declared.command.RawCommand.TheVariants as r
use Rattle.qe_field.specs.Judgements.{bind, some_or}
use Rattle.qe_field.specs.Lookup.{greatest_of}
use Rattle.qe_filter.specs.Indexed.{indexed}
use Rattle.qe_filter.specs.Filters.{filter_terms}
use Rattle.qe_resolve.specs.Cells.{cells_of}
use Rattle.qe_resolve.specs.Pairs.{pairs_of}

-- a document to insert; that it has an id is judged last
abbrev pub document_of : List Field → List (List ℕ × Plain) → Result PlainDocument PlainFault
document_of fields elements =
    bind (cells_of false fields elements) (λ cells.
    bind (some_or f.NoId (value_named (codes "_id") elements)) (λ id. Ok (record { id = id; cells = cells })))

-- an update's filter comes before its set
abbrev pub update_of : List Field → List (List ℕ × Plain) → List (List ℕ × Plain) → Result PlainCommand PlainFault
update_of fields filter set = bind (filter_terms fields filter) (λ terms. bind (cells_of true fields set) (λ cells. Ok (c.Update terms cells)))

abbrev pub step_of : ℕ → ℕ → Result PlainCommand PlainFault
step_of job limit = if nat_le 1 limit && nat_le limit 65536 then Ok (c.Step job limit) else Err (f.BadLimit limit)

-- a contention is at most the field's greatest one
abbrev pub raise_to : ℕ → ℕ × FieldKind → Result PlainCommand PlainFault
raise_to contention found = if nat_le contention (greatest_of found.1) then Ok (c.Raise found.0 contention) else Err (f.BadContention contention)

abbrev pub raise_of : List Field → List ℕ → ℕ → Result PlainCommand PlainFault
raise_of fields path contention = bind (indexed fields path) (raise_to contention)

unfoldable pub resolved : List Field → RawCommand → Result PlainCommand PlainFault
resolved fields (r.Insert doc) = bind (document_of fields doc) (λ document. Ok (c.Insert document))
resolved fields (r.Find filter ids) = bind (filter_terms fields filter) (λ terms. Ok (c.Find terms ids))
resolved fields (r.Update filter set) = update_of fields filter set
resolved fields (r.Delete filter) = bind (filter_terms fields filter) (λ terms. Ok (c.Delete terms))
resolved fields (r.Begin kind tokens) = bind (pairs_of fields tokens) (λ pairs. Ok (c.Begin kind pairs))
resolved fields (r.Step job limit) = step_of job limit
resolved fields (r.End job) = Ok (c.End job)
resolved fields (r.Abandon job) = Ok (c.Abandon job)
resolved fields (r.Raise path contention) = raise_of fields path contention
