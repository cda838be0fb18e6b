-- What a line behind the header says, or its first fault.
use Rattle.std.specs.Prelude.{ℕ, List, option_map, Result, Ok}
use Rattle.qe_field.specs.declared.field.Field.{Field}
use Rattle.qe_plain.specs.declared.command.PlainCommand.{PlainCommand}
use Rattle.qe_plain.specs.declared.command.RawCommand.{RawCommand}
use Rattle.qe_fits.specs.declared.part.Part.{Part}
use Rattle.qe_schema.specs.Fits.{misfit, name_of}
use Rattle.qe_schema.specs.Judgements.{bind, refuse_as, unless}
use Rattle.qe_schema.specs.Resolve.{resolved}
use Rattle.qe_raw.specs.declared.fault.ScriptKind.{ScriptKind}
use Rattle.qe_raw.specs.declared.fault.ScriptKind.TheVariants as k
use Rattle.qe_raw.specs.Raw.{raw_of}
use Rattle.qe_script.specs.declared.script.Header.{Header}
use Rattle.qe_script.specs.declared.script.Line.{Line}

-- the command that is meant under the fields
abbrev pub command_of : List Field → RawCommand → Result PlainCommand ScriptKind
command_of fields raw = refuse_as k.Plain (resolved fields raw)

abbrev pub line_with : ℕ → PlainCommand → Line
line_with caller command = record { caller = caller; command = command }

abbrev pub bad_part : Part → ScriptKind
bad_part part = k.BadValue (name_of part)

-- .. which has to fit
abbrev pub meant : List Field → ℕ × RawCommand → Result Line ScriptKind
meant fields raw =
    bind (command_of fields raw.1) (λ command.
    unless (option_map bad_part (misfit fields command)) (
    Ok (line_with raw.0 command)))

abbrev pub line_of : Header → List ℕ → Result Line ScriptKind
line_of header line = bind (raw_of header.callers line) (meant header.schema)
