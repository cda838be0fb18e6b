-- What a call ends with, before it is written: the status and its text, or why there is none.
use Rattle.std.specs.Prelude.{◌≡◌, ℕ, List, Option, Some, None}
use Rattle.qe_base.specs.Transfer.{TakesSome, IsCutOff}
use Rattle.qe_due.specs.Due.{IsDue, IsDueFor, IsDueForInput, task_for}
use Rattle.qe_due.specs.declared.ending.Ending.{Ending}
use Rattle.qe_due.specs.declared.ending.Stop.{Stop}
use Rattle.qe_due.specs.declared.ending.Stop.TheVariants.{ReadFault, NoMemory}
use Rattle.qe_due.specs.declared.task.Task.{Task}

-- for the bytes of a task's input
abbrev pub IsEndingFor : Task → List ℕ → Ending → Type 0
IsEndingFor task taken ending = IsDueFor task taken ending.status ending.text

-- for what a source has left
abbrev pub IsInputEnding : Task → Option (List ℕ) → Option (List ℕ) → Ending → Type 0
IsInputEnding task old new ending = IsDueForInput task old new ending.status ending.text

abbrev pub IsEnding : List (List ℕ) → Option (List ℕ) → Option (List ℕ) → Ending → Type 0
IsEnding words old new ending = IsDue words old new ending.status ending.text

-- why an input has no ending; in both cases the source stands behind bytes that it gave
abbrev pub IsWhyNone : ℕ → ℕ → Option (List ℕ) → Option (List ℕ) → Stop → Type 0
IsWhyNone before now old new ReadFault = IsCutOff before now old new
IsWhyNone before now old new NoMemory = TakesSome old new

-- the words ask for a task, and its input can't be read
pub record IsUnreadable (words : List (List ℕ)) (before now : ℕ) (old new : Option (List ℕ)) : Type 0 where
  pub task : Task
  pub form : task_for words ≡ Some task
  pub cut_off : IsCutOff before now old new

abbrev pub IsWhyStopped : List (List ℕ) → ℕ → ℕ → Option (List ℕ) → Option (List ℕ) → Stop → Type 0
IsWhyStopped words before now old new ReadFault = IsUnreadable words before now old new
IsWhyStopped words before now old new NoMemory = TakesSome old new

-- words that ask for nothing or for a script to be made leave the source as it was
abbrev pub LeavesUnread : {S : Type 0} → List (List ℕ) → S → S → Type 0
LeavesUnread words old new = task_for words ≡ None → new ≡ old
