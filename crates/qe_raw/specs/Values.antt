-- The values of a command's line: each has its form, or is a bad one.
use Rattle.std.specs.Prelude.{ℕ, ◌^◌, List, [], codes, bytes_eq, nat_lt, Option, None, Some, option_and_then, unwrap_or, Result, Ok, if◌then◌else◌}
use Rattle.std.specs.Result.{result_ok}
use Rattle.serde_json.specs.Data.{Data, Members}
use Rattle.serde_json.specs.Find.{as_u64, as_number, as_str, get_member}
use Rattle.qe_value.specs.declared.value.Plain.{Plain}
use Rattle.qe_value.specs.Views.{fields_of}
use Rattle.qe_bson.specs.JsonReading.{value_of_json}
use Rattle.qe_base.specs.declared.maintenance.JobKind.{JobKind}
use Rattle.qe_base.specs.declared.maintenance.JobKind.TheVariants as j
use Rattle.qe_schema.specs.Judgements.{bind, some_or}
use Rattle.qe_raw.specs.declared.fault.ScriptKind.{ScriptKind}
use Rattle.qe_raw.specs.declared.fault.ScriptKind.TheVariants as k

-- the fields of a document
abbrev pub Fields : Type 0
Fields = List (List ℕ × Plain)

-- the value of a name that has to be there; of a line's own names that is judged before
abbrev pub needed : List ℕ → Members → Result Data ScriptKind
needed name ms = some_or (k.Missing name) (get_member name ms)

-- what Extended JSON gives of a value, if it gives one
abbrev pub value_if_any : Data → Option Plain
value_if_any d = result_ok (value_of_json d)

-- .. and the document that this is
abbrev pub document_of : Data → Option Fields
document_of d = option_and_then fields_of (value_if_any d)

abbrev pub document_at : List ℕ → Data → Result Fields ScriptKind
document_at name d = some_or (k.BadValue name) (document_of d)

abbrev pub needed_document : List ℕ → Members → Result Fields ScriptKind
needed_document name ms = bind (needed name ms) (document_at name)

-- a judgement of a value that may be missing
abbrev pub if_there : {A : Type 0} → (Data → Result A ScriptKind) → Option Data → Result (Option A) ScriptKind
if_there judge None = Ok None
if_there judge (Some d) = bind (judge d) (λ x. Ok (Some x))

abbrev pub optional_document : List ℕ → Members → Result (Option Fields) ScriptKind
optional_document name ms = if_there (document_at name) (get_member name ms)

-- the filter of a search; without one everything is searched for
abbrev pub searched : Members → Result Fields ScriptKind
searched ms = bind (optional_document (codes "filter") ms) (λ filter. Ok (unwrap_or filter []))

abbrev pub in_63_bits : ℕ → Option ℕ
in_63_bits n = if nat_lt n (2 ^ 63) then Some n else None

-- a JSON number without a sign, a fraction and an exponent, from 0 to 2^63 - 1
abbrev pub whole_of : Data → Option ℕ
whole_of d = option_and_then in_63_bits (option_and_then as_u64 (as_number d))

abbrev pub whole_at : List ℕ → Data → Result ℕ ScriptKind
whole_at name d = some_or (k.BadValue name) (whole_of d)

abbrev pub needed_whole : List ℕ → Members → Result ℕ ScriptKind
needed_whole name ms = bind (needed name ms) (whole_at name)

-- the limit of a step, 1 where none is given
abbrev pub limit_from : Option Data → Result ℕ ScriptKind
limit_from None = Ok 1
limit_from (Some d) = whole_at (codes "limit") d

abbrev pub limit_in : Members → Result ℕ ScriptKind
limit_in ms = limit_from (get_member (codes "limit") ms)

abbrev pub kind_named : List ℕ → Option JobKind
kind_named name =
    if bytes_eq name (codes "compact") then Some j.Compact
    else if bytes_eq name (codes "cleanup") then Some j.Cleanup
    else None

abbrev pub kind_in : Members → Result JobKind ScriptKind
kind_in ms = bind (needed (codes "kind") ms) (λ d. some_or (k.BadValue (codes "kind")) (option_and_then kind_named (as_str d)))

abbrev pub field_in : Members → Result (List ℕ) ScriptKind
field_in ms = bind (needed (codes "field") ms) (λ d. some_or (k.BadValue (codes "field")) (as_str d))
