-- The exit statuses.
use Rattle.std.specs.Prelude.{ℕ}
use Rattle.qe_base.specs.declared.status.Status.{Status}
use Rattle.qe_base.specs.declared.status.Status.TheVariants.{Done, ReadFault, WriteFault, Clash, BadScript, ScriptTooLong, NoMemory, BadWords}

abbrev pub code_of : Status → ℕ
code_of Done = 0
code_of ReadFault = 1
code_of WriteFault = 2
code_of Clash = 3
code_of BadScript = 4
code_of ScriptTooLong = 4
code_of NoMemory = 5
code_of BadWords = 6
