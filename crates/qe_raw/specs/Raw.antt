-- A line's caller and raw command, or its first fault: the judgements stand in their order.
use Rattle.std.specs.Prelude.{ℕ, List, codes, true, false, Result, Ok}
use Rattle.serde_json.specs.Data.{Members}
use Rattle.qe_plain.specs.declared.command.RawCommand.{RawCommand}
use Rattle.qe_plain.specs.declared.command.RawCommand.TheVariants as r
use Rattle.qe_schema.specs.Judgements.{bind}
use Rattle.qe_raw.specs.declared.fault.ScriptKind.{ScriptKind}
use Rattle.qe_raw.specs.declared.verb.Verb.{Verb}
use Rattle.qe_raw.specs.declared.verb.Verb.TheVariants as v
use Rattle.qe_raw.specs.Callers.{caller_in}
use Rattle.qe_raw.specs.Names.{checked_names}
use Rattle.qe_raw.specs.Objects.{object_of}
use Rattle.qe_raw.specs.Values.{needed_document, optional_document, searched, needed_whole, limit_in, kind_in, field_in}
use Rattle.qe_raw.specs.Verbs.{verb_in, rules_of}

abbrev pub update_in : Members → Result RawCommand ScriptKind
update_in ms = bind (needed_document (codes "filter") ms) (λ filter. bind (needed_document (codes "set") ms) (λ set. Ok (r.Update filter set)))

abbrev pub begin_in : Members → Result RawCommand ScriptKind
begin_in ms = bind (kind_in ms) (λ kind. bind (optional_document (codes "tokens") ms) (λ tokens. Ok (r.Begin kind tokens)))

abbrev pub step_in : Members → Result RawCommand ScriptKind
step_in ms = bind (needed_whole (codes "job") ms) (λ job. bind (limit_in ms) (λ limit. Ok (r.Step job limit)))

abbrev pub raise_in : Members → Result RawCommand ScriptKind
raise_in ms = bind (field_in ms) (λ field. bind (needed_whole (codes "contention") ms) (λ contention. Ok (r.Raise field contention)))

-- the values in the order of the table
abbrev pub command_in : Verb → Members → Result RawCommand ScriptKind
command_in v.Insert ms = bind (needed_document (codes "doc") ms) (λ doc. Ok (r.Insert doc))
command_in v.Find ms = bind (searched ms) (λ filter. Ok (r.Find filter false))
command_in v.Ids ms = bind (searched ms) (λ filter. Ok (r.Find filter true))
command_in v.Update ms = update_in ms
command_in v.Delete ms = bind (needed_document (codes "filter") ms) (λ filter. Ok (r.Delete filter))
command_in v.Begin ms = begin_in ms
command_in v.Step ms = step_in ms
command_in v.End ms = bind (needed_whole (codes "job") ms) (λ job. Ok (r.End job))
command_in v.Abandon ms = bind (needed_whole (codes "job") ms) (λ job. Ok (r.Abandon job))
command_in v.Raise ms = raise_in ms

-- the command's name, the names of its line, its caller, its values
abbrev pub object_command : List (List ℕ) → Members → Result (ℕ × RawCommand) ScriptKind
object_command callers ms =
    bind (verb_in ms) (λ verb.
    bind (checked_names (rules_of verb) ms) (λ _.
    bind (caller_in callers ms) (λ caller.
    bind (command_in verb ms) (λ command.
    Ok (caller, command)))))

abbrev pub raw_of : List (List ℕ) → List ℕ → Result (ℕ × RawCommand) ScriptKind
raw_of callers line = bind (object_of line) (object_command callers)
