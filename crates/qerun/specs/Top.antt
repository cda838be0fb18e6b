-- What a call of `replay` comes to, status by status.
use Rattle.std.specs.Prelude.{◌≡◌, ◌⊎◌, ℕ, List, Option, Some}
use Rattle.std.specs.Io.KnownBytes.{Appends, Keeps}
use Rattle.qe_base.specs.Faults.{Rose}
use Rattle.qe_base.specs.Transfer.{TakesSome, IsCutOff, AppendsFront}
use Rattle.qe_base.specs.declared.status.Status.{Status}
use Rattle.qe_base.specs.declared.status.Status.TheVariants.{ReadFault, WriteFault, NoMemory}
use Rattle.qe_due.specs.Due.{IsDue, task_for}
use Rattle.qe_due.specs.Status.{IsStatusFor, IsOnly}
use Rattle.qe_due.specs.declared.task.Task.{Task}

-- A call: its words; what the source has left and how often it has failed, what the sink holds and how often it has
-- failed, each before and after.
pub record Call : Type 0 where
  pub words : List (List ℕ)
  pub left : Option (List ℕ)
  pub left_after : Option (List ℕ)
  pub reads : ℕ
  pub reads_after : ℕ
  pub holds : Option (List ℕ)
  pub holds_after : Option (List ℕ)
  pub writes : ℕ
  pub writes_after : ℕ

-- the text that is due was written
pub record IsWritten (call : Call) (status : Status) : Type 0 where
  pub text : List ℕ
  pub due : IsDue call.words call.left call.left_after status text
  pub written : Appends call.holds call.holds_after text

-- the source failed behind bytes that it gave, and nothing was written
pub record IsUnread (call : Call) : Type 0 where
  pub task : Task
  pub form : task_for call.words ≡ Some task
  pub cut_off : IsCutOff call.reads call.reads_after call.left call.left_after
  pub kept : Keeps call.holds call.holds_after

-- memory was short; the source stands behind bytes that it gave, and nothing was written
pub record IsShortOfMemory (call : Call) : Type 0 where
  pub given : TakesSome call.left call.left_after
  pub kept : Keeps call.holds call.holds_after

-- the sink failed, and holds a prefix of the text that was due
pub record IsCutShort (call : Call) : Type 0 where
  pub status : Status
  pub text : List ℕ
  pub due : IsDue call.words call.left call.left_after status text
  pub front : AppendsFront call.holds call.holds_after text
  pub rose : Rose call.writes call.writes_after

-- want of memory is free
abbrev pub IsOutcome : Call → Status → Type 0
IsOutcome call ReadFault = IsUnread call
IsOutcome call WriteFault = IsCutShort call
IsOutcome call NoMemory = IsShortOfMemory call
IsOutcome call status = IsWritten call status

-- where neither side fails, the status is the only one that is due, or memory was wanting
abbrev pub Completes : Call → Status → Type 0
Completes call status = (input : List ℕ) → call.left ≡ Some input → (Rose call.reads call.reads_after → ⊥)
    → (Rose call.writes call.writes_after → ⊥) → IsOnly (IsStatusFor call.words input) status ⊎ (status ≡ NoMemory)
