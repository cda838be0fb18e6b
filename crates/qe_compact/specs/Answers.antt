-- What each call does and answers, by the definitions of jobs, whatever the documents and contentions are.
use Rattle.std.specs.Prelude.{◌≡◌, ℕ, List, ◌++◌, Result, Ok, Err, Some}
use Rattle.qe_base.specs.declared.maintenance.Count.{Count}
use Rattle.qe_base.specs.declared.maintenance.JobKind.{JobKind}
use Rattle.qe_tokens.specs.declared.words.FieldToken.{FieldToken}
use Rattle.qe_esc.specs.Rows.{Rows}
use Rattle.qe_ecoc.specs.declared.rows.Entry.{Entry}
use Rattle.qe_store.specs.declared.stored.Stored.{Stored}
use Rattle.qe_protocol.specs.declared.reply.Reply.{Reply}
use Rattle.qe_protocol.specs.declared.reply.Reply.TheVariants as r
use Rattle.qe_protocol.specs.State.{Job, Jobs, answered}
use Rattle.qe_protocol.specs.Jobs.{begin_job, step_job, AllowedStep, end_job, abandon_job}
use Rattle.qe_compact.specs.declared.fault.BeginFault.{BeginFault}
use Rattle.qe_compact.specs.declared.fault.BeginFault.TheVariants as b
use Rattle.qe_compact.specs.declared.fault.StepFault.{StepFault}
use Rattle.qe_compact.specs.declared.fault.StepFault.TheVariants as s
use Rattle.qe_compact.specs.declared.draft.Planned.{Planned}
use Rattle.qe_compact.specs.Parts.{state_with, work_with}
use Rattle.qe_compact.specs.Drafts.{drafted, IsWithin}
use Rattle.qe_compact.specs.Turns.{IsRun}

-- a begin turns the rows for compaction and the jobs into these, and is replied so; all other rows stay
pub record Begins (kind : JobKind) (tokens : List FieldToken) (rows : Rows) (ecoc : List Entry) (jobs : Jobs) (ecoc_after : List Entry) (after : Jobs) (reply : Reply) : Type 0 where
  pub does : (docs : List Stored) (current : List ℕ)
      → begin_job kind tokens (state_with docs current rows ecoc jobs) ≡ answered (state_with docs current rows ecoc_after after) reply

-- the reply for a begin's answer; there is none for want of memory
abbrev pub BeginReplied : Result ℕ BeginFault → (Reply → Type 0) → Type 0
BeginReplied (Ok job) Holds = Holds (r.Begun job)
BeginReplied (Err (b.JobRunning job)) Holds = Holds (r.JobRunning job)
BeginReplied (Err (b.TokenMissing field)) Holds = Holds (r.TokenMissing field)
BeginReplied (Err b.NoMemory) Holds = Unit {0}

-- an end of the job that runs turns the jobs into these, and is replied so
pub record Ends (jobs after : Jobs) (reply : Reply) : Type 0 where
  pub job : Job
  pub runs : jobs.job ≡ Some job
  pub does : (docs : List Stored) (current : List ℕ) (rows : Rows) (ecoc : List Entry)
      → end_job (state_with docs current rows ecoc jobs) job.number ≡ answered (state_with docs current rows ecoc after) reply

-- an abandon of the job that runs turns the jobs into these
pub record Abandons (jobs after : Jobs) : Type 0 where
  pub job : Job
  pub runs : jobs.job ≡ Some job
  pub does : (docs : List Stored) (current : List ℕ) (rows : Rows) (ecoc : List Entry)
      → abandon_job (state_with docs current rows ecoc jobs) job.number ≡ answered (state_with docs current rows ecoc after) r.Abandoned

-- a step of the job that runs turns the rows and the jobs into these, and is replied so; `searched` are true counts, one for each
-- row that was opened, and `fields` are those rows' fields
pub record Steps (nonces : List (List ℕ)) (rows : Rows) (jobs : Jobs) (rows_after : Rows) (after : Jobs) (reply : Reply) (searched : List Count) (fields : List ℕ) : Type 0 where
  pub job : Job
  pub runs : jobs.job ≡ Some job
  pub allowed : (docs : List Stored) (current : List ℕ) (ecoc : List Entry)
      → AllowedStep (state_with docs current rows ecoc jobs) job.number nonces searched
  pub does : (docs : List Stored) (current : List ℕ) (ecoc : List Entry)
      → step_job (state_with docs current rows ecoc jobs) job.number nonces searched
      ≡ record { state = state_with docs current rows_after ecoc after; reply = reply; opened = fields }

-- the same with the lists that the counts and fields were appended to
pub record StepsAndNotes (nonces : List (List ℕ)) (rows : Rows) (jobs : Jobs) (rows_after : Rows) (after : Jobs) (counts counts_after : List Count) (opened opened_after : List ℕ) (reply : Reply) : Type 0 where
  pub searched : List Count
  pub fields : List ℕ
  pub all_counts : counts_after ≡ counts ++ searched
  pub all_opened : opened_after ≡ opened ++ fields
  pub steps : Steps nonces rows jobs rows_after after reply searched fields

-- what a step has planned: a run of units from the work as it stands
pub record IsPlanned (nonces : List (List ℕ)) (rows : Rows) (jobs : Jobs) (counts : List Count) (opened : List ℕ) (planned : Planned) : Type 0 where
  pub job : Job
  pub runs : jobs.job ≡ Some job
  pub within : IsWithin jobs planned.draft.plan planned.draft.taken
  pub run : IsRun job.kind job.tokens nonces (work_with rows jobs job) (drafted rows jobs planned.draft) counts planned.draft.counts opened planned.draft.opened planned.mismatch

-- rows, jobs and lists stay
pub record IsUnchanged (rows rows_after : Rows) (jobs after : Jobs) (counts counts_after : List Count) (opened opened_after : List ℕ) : Type 0 where
  pub same_rows : rows_after ≡ rows
  pub same_jobs : after ≡ jobs
  pub same_counts : counts_after ≡ counts
  pub same_opened : opened_after ≡ opened

-- the reply for a step's answer; there is none for want of memory
abbrev pub StepReplied : Result ℕ StepFault → (Reply → Type 0) → Type 0
StepReplied (Ok left) Holds = Holds (r.Stepped left)
StepReplied (Err (s.TokenMismatch field)) Holds = Holds (r.TokenMismatch field)
StepReplied (Err s.NoMemory) Holds = Unit {0}

-- what holds after want of memory
abbrev pub OnWant : Result ℕ StepFault → Type 0 → Type 0
OnWant (Err s.NoMemory) Holds = Holds
OnWant answer Holds = Unit {0}
