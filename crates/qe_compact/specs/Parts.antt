-- Upkeep as a part of the server's state.
use Rattle.std.specs.Prelude.{ℕ, ◌++◌, List, [], drop, Option, Some, None, if◌then◌else◌}
use Rattle.qe_base.specs.declared.maintenance.JobKind.{JobKind}
use Rattle.qe_esc.specs.Rows.{Rows, position_ids}
use Rattle.qe_ecoc.specs.declared.rows.Entry.{Entry}
use Rattle.qe_store.specs.declared.stored.Stored.{Stored}
use Rattle.qe_protocol.specs.State.{Job, Jobs, State}
use Rattle.qe_protocol.specs.Units.{Work}
use Rattle.qe_protocol.specs.Jobs.{is_parked, with_leaves}
use Rattle.qe_compact.specs.declared.draft.Plan.{Plan}
use Rattle.qe_compact.specs.declared.draft.Taken.{Taken}
use Rattle.qe_compact.specs.declared.job.Running.{Running}

-- the job that runs, with the leaves that it has handled
abbrev pub job_of : Option Running → ℕ → Option Job
job_of None leaves = None
job_of (Some job) leaves = Some (record { number = job.number; kind = job.kind; tokens = job.tokens; leaves = leaves })

-- its number and kind
abbrev pub running_of : Option Job → Option (ℕ × JobKind)
running_of None = None
running_of (Some job) = Some (job.number, job.kind)

-- the leaves that it has handled; 0 where none runs
abbrev pub leaves_of : Option Job → ℕ
leaves_of None = 0
leaves_of (Some job) = job.leaves

-- the job with so many leaves handled
abbrev pub leaves_now : Option Job → ℕ → Option Job
leaves_now None leaves = None
leaves_now (Some job) leaves = Some (with_leaves job leaves)

-- the server's state with these rows and this maintenance
abbrev pub state_with : List Stored → List ℕ → Rows → List Entry → Jobs → State
state_with docs current rows ecoc jobs = record { docs = docs; index = record { rows = rows; ecoc = ecoc }; jobs = jobs; current = current }

-- the work of a job, with these rows and lists
abbrev pub work_with : Rows → Jobs → Job → Work
work_with rows jobs job = record { rows = rows; aside = jobs.aside; doomed = jobs.doomed; captured = jobs.captured; leaves = job.leaves }

-- no job runs; the lists stay
abbrev pub parked : Jobs → Jobs
parked jobs = record { aside = jobs.aside; captured = jobs.captured; doomed = jobs.doomed; job = None; last = jobs.last }

-- the rows that a begin would have aside
abbrev pub rows_ahead : Jobs → List Entry → List Entry
rows_ahead jobs ecoc = if is_parked jobs then jobs.aside else ecoc

-- rows and jobs where a begin has set aside what there is to do
pub record Ready : Type 0 where
  pub ecoc : List Entry
  pub jobs : Jobs

-- the rows for compaction go aside and the positions are captured, unless something is parked
abbrev pub made_ready : Rows → List Entry → Jobs → Ready
made_ready rows ecoc jobs =
    if is_parked jobs then record { ecoc = ecoc; jobs = jobs }
    else record {
      ecoc = [];
      jobs = record { aside = ecoc; captured = position_ids rows; doomed = jobs.doomed; job = jobs.job; last = jobs.last };
    }

-- the lists without what was taken, and with what was doomed
abbrev pub kept : Jobs → Plan → Taken → Jobs
kept jobs plan taken = record {
  aside = drop taken.rows jobs.aside;
  captured = drop taken.captured jobs.captured;
  doomed = drop taken.doomed (jobs.doomed ++ plan.doomed);
  job = leaves_now jobs.job taken.leaves;
  last = jobs.last;
}
