-- What a call is to write and with which status, by what its words ask for and what its source had left.
use Rattle.std.specs.Prelude.{◌≡◌, ℕ, List, Option, Some, None, Ok, Err}
use Rattle.qe_base.specs.Lines.{placed_lines}
use Rattle.qe_base.specs.Transfer.{TakesAll, IsTooLong}
use Rattle.qe_base.specs.declared.status.Status.{Status}
use Rattle.qe_base.specs.declared.status.Status.TheVariants.{Done, Clash, BadScript, ScriptTooLong, BadWords}
use Rattle.qe_make.specs.Made.{made}
use Rattle.qe_play.specs.Due.{IsDone, IsClashing}
use Rattle.qe_raw.specs.declared.fault.ScriptFault.TheVariants.{At}
use Rattle.qe_raw.specs.declared.fault.ScriptKind.{ScriptKind}
use Rattle.qe_script.specs.Script.{script_of}
use Rattle.qe_script.specs.declared.script.Script.{Script}
use Rattle.qe_show.specs.Lines.{Shows, first_not_hex}
use Rattle.qe_words.specs.Words.{words_of}
use Rattle.qe_words.specs.declared.words.Words.{Words}
use Rattle.qe_words.specs.declared.words.Words.TheVariants as words
use Rattle.qe_due.specs.Text.{refusal_text, not_hex_text, too_long_text, usage_text}
use Rattle.qe_due.specs.declared.task.Task.{Task}
use Rattle.qe_due.specs.declared.task.Task.TheVariants.{Replay, Show}

-- the bytes are a script, and the text is its run's
pub record IsRun (taken text : List ℕ) : Type 0 where
  pub script : Script
  pub is_script : script_of taken ≡ Ok script
  pub done : IsDone script text

-- the bytes are a script, and the text is the line of its run's first clash
pub record IsClashOf (taken text : List ℕ) : Type 0 where
  pub script : Script
  pub is_script : script_of taken ≡ Ok script
  pub clash : IsClashing script text

-- the text names the first line that isn't one of a script, and the first of its faults
pub record IsRefused (taken text : List ℕ) : Type 0 where
  pub line : ℕ
  pub kind : ScriptKind
  pub fault : script_of taken ≡ Err (At line kind)
  pub printed : text ≡ refusal_text line kind

-- the text names the first line that isn't hex
pub record IsNotHex (taken text : List ℕ) : Type 0 where
  pub line : ℕ
  pub first : first_not_hex (placed_lines taken) ≡ Some line
  pub printed : text ≡ not_hex_text line

-- the text that the bytes of an input are answered with, by the status
abbrev pub IsDueFor : Task → List ℕ → Status → List ℕ → Type 0
IsDueFor Replay taken Done text = IsRun taken text
IsDueFor Replay taken Clash text = IsClashOf taken text
IsDueFor Replay taken BadScript text = IsRefused taken text
IsDueFor Show taken Done text = Shows (placed_lines taken) text
IsDueFor Show taken BadScript text = IsNotHex taken text
IsDueFor task taken _ text = ⊥

-- the source was taken to its end, and the text is due for its bytes
pub record IsDueForTaken (task : Task) (old new : Option (List ℕ)) (status : Status) (text : List ℕ) : Type 0 where
  pub taken : List ℕ
  pub whole : TakesAll old new taken
  pub due : IsDueFor task taken status text

-- more was taken than a script may have
pub record IsDueForTooMuch (old new : Option (List ℕ)) (text : List ℕ) : Type 0 where
  pub count : ℕ
  pub too_long : IsTooLong old new count
  pub printed : text ≡ too_long_text

-- of a task that takes an input
abbrev pub IsDueForInput : Task → Option (List ℕ) → Option (List ℕ) → Status → List ℕ → Type 0
IsDueForInput task old new ScriptTooLong text = IsDueForTooMuch old new text
IsDueForInput task old new status text = IsDueForTaken task old new status text

-- the script that is made of two numbers
pub record IsMade (documents seed : ℕ) (status : Status) (text : List ℕ) : Type 0 where
  pub done : status ≡ Done
  pub printed : text ≡ made documents seed

-- of words that ask for nothing
pub record IsUsage (status : Status) (text : List ℕ) : Type 0 where
  pub bad : status ≡ BadWords
  pub printed : text ≡ usage_text

abbrev pub IsDueOf : Option Words → Option (List ℕ) → Option (List ℕ) → Status → List ℕ → Type 0
IsDueOf (Some words.Replay) old new status text = IsDueForInput Replay old new status text
IsDueOf (Some words.Show) old new status text = IsDueForInput Show old new status text
IsDueOf (Some (words.Make documents seed)) old new status text = IsMade documents seed status text
IsDueOf None old new status text = IsUsage status text

-- the status and the text that are due for these words and what was taken of the source
abbrev pub IsDue : List (List ℕ) → Option (List ℕ) → Option (List ℕ) → Status → List ℕ → Type 0
IsDue words old new status text = IsDueOf (words_of words) old new status text

-- what is done with an input, where the words ask for something that takes one
abbrev pub task_of : Option Words → Option Task
task_of (Some words.Replay) = Some Replay
task_of (Some words.Show) = Some Show
task_of (Some (words.Make documents seed)) = None
task_of None = None

abbrev pub task_for : List (List ℕ) → Option Task
task_for words = task_of (words_of words)
