-- Jobs of maintenance: begun, run step by step, ended, abandoned.
use Rattle.std.specs.Prelude.{◌≡◌, ℕ, ◌+◌, ◌==◌, not, List, [], ◌∷◌, map, Bool, Option, None, Some, if◌then◌else◌}
use Rattle.std.specs.Bool.{MatchBool}
use Rattle.std.specs.List.{list_any}
use Rattle.qe_base.specs.declared.maintenance.Count.{Count}
use Rattle.qe_base.specs.declared.maintenance.JobKind.{JobKind}
use Rattle.qe_tokens.specs.declared.words.FieldToken.{FieldToken}
use Rattle.qe_esc.specs.Rows.{position_ids}
use Rattle.qe_ecoc.specs.declared.rows.Entry.{Entry}
use Rattle.qe_protocol.specs.declared.reply.Reply.{Reply}
use Rattle.qe_protocol.specs.declared.reply.Reply.TheVariants as r
use Rattle.qe_protocol.specs.State.{Job, Jobs, State, Done, answered, left_of}
use Rattle.qe_protocol.specs.Units.{Work, UnitsDone, units, AllowedUnits}

abbrev pub with_jobs : State → Jobs → State
with_jobs state jobs = record { docs = state.docs; index = state.index; jobs = jobs; current = state.current }

-- whether a token was sent for a field
abbrev pub has_token : List FieldToken → ℕ → Bool
has_token tokens field = list_any (λ sent. sent.field == field) tokens

-- the field of the first row without a token
abbrev pub first_missing : List FieldToken → List Entry → Option ℕ
first_missing tokens [] = None
first_missing tokens (row ∷ rows) = if has_token tokens row.field then first_missing tokens rows else Some row.field

-- rows aside, captured or doomed identifiers stand
abbrev pub is_parked : Jobs → Bool
is_parked jobs = not (left_of jobs == 0)

-- the rows that would be aside
abbrev pub will_be_aside : State → List Entry
will_be_aside state = if is_parked state.jobs then state.jobs.aside else state.index.ecoc

-- the next job, which has handled no leaves
abbrev pub next_job : JobKind → List FieldToken → Jobs → Job
next_job kind tokens jobs = record { number = jobs.last + 1; kind = kind; tokens = tokens; leaves = 0 }

-- what is parked is taken up as it is
abbrev pub resumed : JobKind → List FieldToken → State → State
resumed kind tokens state = with_jobs state (record {
  aside = state.jobs.aside;
  captured = state.jobs.captured;
  doomed = state.jobs.doomed;
  job = Some (next_job kind tokens state.jobs);
  last = state.jobs.last + 1;
})

-- the rows for compaction go aside, and the identifiers of all rows without a value are captured
abbrev pub fresh : JobKind → List FieldToken → State → State
fresh kind tokens state = record {
  docs = state.docs;
  index = record { rows = state.index.rows; ecoc = [] };
  jobs = record {
    aside = state.index.ecoc;
    captured = position_ids state.index.rows;
    doomed = state.jobs.doomed;
    job = Some (next_job kind tokens state.jobs);
    last = state.jobs.last + 1;
  };
  current = state.current;
}

abbrev pub begun : JobKind → List FieldToken → State → State
begun kind tokens state = if is_parked state.jobs then resumed kind tokens state else fresh kind tokens state

abbrev pub begin_with : JobKind → List FieldToken → State → Option ℕ → Done
begin_with kind tokens state (Some field) = answered state (r.TokenMissing field)
begin_with kind tokens state None = answered (begun kind tokens state) (r.Begun (state.jobs.last + 1))

abbrev pub begin_beside : JobKind → List FieldToken → State → Option Job → Done
begin_beside kind tokens state (Some job) = answered state (r.JobRunning job.number)
begin_beside kind tokens state None = begin_with kind tokens state (first_missing tokens (will_be_aside state))

-- a job begins: where none runs, and each row that would be aside has a token
abbrev pub begin_job : JobKind → List FieldToken → State → Done
begin_job kind tokens state = begin_beside kind tokens state state.jobs.job

-- what is done by the job that runs, where it is the one asked for
abbrev pub on_job : State → ℕ → Option Job → (Job → Done) → Done
on_job state asked None go = answered state (r.NoJob asked 0)
on_job state asked (Some job) go = if job.number == asked then go job else answered state (r.NoJob asked job.number)

-- the same of the counts that go with it: where there is no such job there is no search
abbrev pub AllowedOn : ℕ → Option Job → List Count → (Job → Type 0) → Type 0
AllowedOn asked None counts Go = counts ≡ []
AllowedOn asked (Some job) counts Go = MatchBool (job.number == asked) (Go job) (counts ≡ [])

-- no job runs
abbrev pub without_job : State → State
without_job state = with_jobs state (record {
  aside = state.jobs.aside;
  captured = state.jobs.captured;
  doomed = state.jobs.doomed;
  job = None;
  last = state.jobs.last;
})

abbrev pub work_of : State → Job → Work
work_of state job = record {
  rows = state.index.rows;
  aside = state.jobs.aside;
  doomed = state.jobs.doomed;
  captured = state.jobs.captured;
  leaves = job.leaves;
}

-- the state with what the work has become, and with a job or none
abbrev pub with_work : State → Work → Option Job → State
with_work state work job = record {
  docs = state.docs;
  index = record { rows = work.rows; ecoc = state.index.ecoc };
  jobs = record { aside = work.aside; captured = work.captured; doomed = work.doomed; job = job; last = state.jobs.last };
  current = state.current;
}

abbrev pub with_leaves : Job → ℕ → Job
with_leaves job leaves = record { number = job.number; kind = job.kind; tokens = job.tokens; leaves = leaves }

abbrev pub stepped : State → Reply → UnitsDone → Done
stepped state reply done = record { state = state; reply = reply; opened = map (λ row. row.field) done.opened }

-- after a mismatch no job runs; else the reply tells how much is left
abbrev pub step_done : State → Job → UnitsDone → Option ℕ → Done
step_done state job done (Some field) = stepped (with_work state done.work None) (r.TokenMismatch field) done
step_done state job done None =
    let after = with_work state done.work (Some (with_leaves job done.work.leaves)) in
    stepped after (r.Stepped (left_of after.jobs)) done

abbrev pub step_units : State → Job → List (List ℕ) → List Count → UnitsDone
step_units state job nonces counts = units job.kind job.tokens nonces (work_of state job) counts

-- a step does one unit for each nonce, of which a step has as many as its limit
abbrev pub step_job : State → ℕ → List (List ℕ) → List Count → Done
step_job state asked nonces counts =
    on_job state asked state.jobs.job (λ job.
    let done = step_units state job nonces counts in step_done state job done done.mismatch)

abbrev pub AllowedStep : State → ℕ → List (List ℕ) → List Count → Type 0
AllowedStep state asked nonces counts =
    AllowedOn asked state.jobs.job counts (λ job. AllowedUnits job.kind job.tokens nonces (work_of state job) counts)

-- a job ends where nothing is left
abbrev pub end_running : State → Job → Done
end_running state job =
    if left_of state.jobs == 0 then answered (without_job state) (r.Ended job.leaves) else answered state (r.NotDone (left_of state.jobs))

abbrev pub end_job : State → ℕ → Done
end_job state asked = on_job state asked state.jobs.job (end_running state)

-- a job is abandoned whatever is left, which is parked then
abbrev pub abandon_job : State → ℕ → Done
abandon_job state asked = on_job state asked state.jobs.job (λ job. answered (without_job state) r.Abandoned)
