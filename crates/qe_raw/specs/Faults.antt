-- The refusals that have a cause: all but want of memory.
use Rattle.std.specs.Prelude.{ℕ, Option, None, Some}
use Rattle.qe_raw.specs.declared.fault.LineFault.{LineFault}
use Rattle.qe_raw.specs.declared.fault.LineFault.TheVariants as l
use Rattle.qe_raw.specs.declared.fault.ScriptFault.{ScriptFault}
use Rattle.qe_raw.specs.declared.fault.ScriptFault.TheVariants as s
use Rattle.qe_raw.specs.declared.fault.ScriptKind.{ScriptKind}

abbrev pub line_refusal : LineFault → Option ScriptKind
line_refusal (l.Kind kind) = Some kind
line_refusal l.NoMemory = None

abbrev pub script_refusal : ScriptFault → Option ScriptFault
script_refusal (s.At line kind) = Some (s.At line kind)
script_refusal s.NoMemory = None

-- a line's fault as one of the line of this number
abbrev pub fault_at : ℕ → LineFault → ScriptFault
fault_at line (l.Kind kind) = s.At line kind
fault_at line l.NoMemory = s.NoMemory
