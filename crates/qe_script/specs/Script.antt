-- What a script is: its first line that isn't blank is the header, each other one a command.
use Rattle.std.specs.Prelude.{ℕ, List, [], ◌∷◌, Result, Ok, Err}
use Rattle.qe_base.specs.Lines.{placed_lines}
use Rattle.qe_schema.specs.Judgements.{bind, gather, refuse_as}
use Rattle.qe_raw.specs.declared.fault.ScriptFault.{ScriptFault}
use Rattle.qe_raw.specs.declared.fault.ScriptFault.TheVariants as f
use Rattle.qe_raw.specs.declared.fault.ScriptKind.TheVariants as k
use Rattle.qe_raw.specs.Lines.{numbered}
use Rattle.qe_script.specs.declared.script.Header.{Header}
use Rattle.qe_script.specs.declared.script.Line.{Line}
use Rattle.qe_script.specs.declared.script.Script.{Script}
use Rattle.qe_script.specs.Header.{header_of}
use Rattle.qe_script.specs.Line.{line_of}

abbrev pub header_at : ℕ × List ℕ → Result Header ScriptFault
header_at line = refuse_as (f.At line.0) (header_of line.1)

abbrev pub line_at : Header → ℕ × List ℕ → Result Line ScriptFault
line_at header line = refuse_as (f.At line.0) (line_of header line.1)

unfoldable pub one_line : Header → ℕ × List ℕ → Result (List Line) ScriptFault
one_line header line = bind (line_at header line) (λ read. Ok (read ∷ []))

-- the commands of these numbered lines, or the fault of the first line that isn't one
abbrev pub lines_of : Header → List (ℕ × List ℕ) → Result (List Line) ScriptFault
lines_of header lines = gather (one_line header) lines

abbrev pub script_with : Header → List Line → Script
script_with header lines = record {
  schema = header.schema;
  keys = header.keys;
  seed = header.seed;
  callers = header.callers;
  brief = header.brief;
  leaf = header.leaf;
  lines = lines;
}

abbrev pub behind : List (ℕ × List ℕ) → Header → Result Script ScriptFault
behind lines header = bind (lines_of header lines) (λ read. Ok (script_with header read))

-- no line at all is a fault of line 1
abbrev pub script_from : List (ℕ × List ℕ) → Result Script ScriptFault
script_from [] = Err (f.At 1 k.NoHeader)
script_from (line ∷ lines) = bind (header_at line) (behind lines)

abbrev pub script_of : List ℕ → Result Script ScriptFault
script_of bytes = script_from (numbered (placed_lines bytes))
