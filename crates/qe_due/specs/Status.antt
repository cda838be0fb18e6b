-- The status that is due for words and an input, where neither side fails.
use Rattle.std.specs.Prelude.{◌≡◌, ℕ, List, length, nat_lt, Bool, true, false, Option, Some, None, Result, Ok, Err}
use Rattle.qe_base.specs.Lines.{placed_lines}
use Rattle.qe_base.specs.Transfer.{script_limit}
use Rattle.qe_base.specs.declared.status.Status.{Status}
use Rattle.qe_base.specs.declared.status.Status.TheVariants.{Done, Clash, BadScript, ScriptTooLong, BadWords}
use Rattle.qe_play.specs.Due.{IsVerdict}
use Rattle.qe_play.specs.declared.due.Verdict.{Verdict}
use Rattle.qe_play.specs.declared.due.Verdict.TheVariants as verdict
use Rattle.qe_raw.specs.declared.fault.ScriptFault.{ScriptFault}
use Rattle.qe_script.specs.Script.{script_of}
use Rattle.qe_script.specs.declared.script.Script.{Script}
use Rattle.qe_show.specs.Lines.{first_not_hex}
use Rattle.qe_words.specs.Words.{words_of}
use Rattle.qe_words.specs.declared.words.Words.{Words}
use Rattle.qe_words.specs.declared.words.Words.TheVariants as words
use Rattle.qe_due.specs.declared.task.Task.{Task}
use Rattle.qe_due.specs.declared.task.Task.TheVariants.{Replay, Show}

-- the status of a verdict
abbrev pub status_of : Verdict → Status
status_of verdict.Done = Done
status_of verdict.Clash = Clash

-- a run of the script has the verdict of this status
pub record IsScriptStatus (script : Script) (status : Status) : Type 0 where
  pub verdict : Verdict
  pub is : IsVerdict script verdict
  pub told : status ≡ status_of verdict

-- of bytes that are a script, or none
abbrev pub IsReadStatus : Result Script ScriptFault → Status → Type 0
IsReadStatus (Ok script) status = IsScriptStatus script status
IsReadStatus (Err fault) status = status ≡ BadScript

abbrev pub hex_status : Option ℕ → Status
hex_status None = Done
hex_status (Some line) = BadScript

abbrev pub IsTaskStatus : Task → List ℕ → Status → Type 0
IsTaskStatus Replay input status = IsReadStatus (script_of input) status
IsTaskStatus Show input status = status ≡ hex_status (first_not_hex (placed_lines input))

-- an input that is longer than a script may be, or isn't
abbrev pub IsSizedStatus : Bool → Task → List ℕ → Status → Type 0
IsSizedStatus true task input status = status ≡ ScriptTooLong
IsSizedStatus false task input status = IsTaskStatus task input status

abbrev pub IsInputStatus : Task → List ℕ → Status → Type 0
IsInputStatus task input status = IsSizedStatus (nat_lt script_limit (length input)) task input status

abbrev pub IsStatusOf : Option Words → List ℕ → Status → Type 0
IsStatusOf (Some words.Replay) input status = IsInputStatus Replay input status
IsStatusOf (Some words.Show) input status = IsInputStatus Show input status
IsStatusOf (Some (words.Make documents seed)) input status = status ≡ Done
IsStatusOf None input status = status ≡ BadWords

-- the status of words and an input
abbrev pub IsStatusFor : List (List ℕ) → List ℕ → Status → Type 0
IsStatusFor words input status = IsStatusOf (words_of words) input status

-- of all statuses it alone is such
pub record IsOnly (Is : Status → Type 0) (status : Status) : Type 0 where
  pub due : Is status
  pub only : (other : Status) → Is other → other ≡ status
