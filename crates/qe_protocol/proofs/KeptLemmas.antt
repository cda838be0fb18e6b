-- Maintenance keeps the documents and each field's contention.
use Rattle.std.proofs.Common.{◌≡◌, ℕ, List, Option, None, Some, refl}
use Rattle.std.proofs.lemmas.Bool.{cond_both}
use Rattle.std.specs.Prelude.{◌==◌}
use Rattle.qe_base.specs.declared.maintenance.Count.{Count}
use Rattle.qe_base.specs.declared.maintenance.JobKind.{JobKind}
use Rattle.qe_tokens.specs.declared.words.FieldToken.{FieldToken}
use Rattle.qe_protocol.specs.State.{Job, State, Done, left_of}
use Rattle.qe_protocol.specs.Jobs.{begun, fresh, resumed, is_parked, begin_with, begin_beside, begin_job, first_missing, will_be_aside, on_job, step_done, step_job, step_units, end_running, end_job, abandon_job}
use Rattle.qe_protocol.specs.Units.{UnitsDone}

pub record AreKept (before after : State) : Type 0 where
  pub docs : after.docs ≡ before.docs
  pub current : after.current ≡ before.current

module _ (state : State) where
  abbrev Kept : Done → Type 0
  Kept done = AreKept state done.state

  same : AreKept state state
  same = record { docs = refl; current = refl }

  begun-keeps : (kind : JobKind) (tokens : List FieldToken) → AreKept state (begun kind tokens state)
  begun-keeps kind tokens =
      cond_both (is_parked state.jobs) (resumed kind tokens state) (fresh kind tokens state) (AreKept state)
      (λ _. record { docs = refl; current = refl }) (λ _. record { docs = refl; current = refl })

  begin_with-keeps : (kind : JobKind) (tokens : List FieldToken) (missing : Option ℕ) → Kept (begin_with kind tokens state missing)
  begin_with-keeps kind tokens (Some field) = same
  begin_with-keeps kind tokens None = begun-keeps kind tokens

  begin_beside-keeps : (kind : JobKind) (tokens : List FieldToken) (job : Option Job) → Kept (begin_beside kind tokens state job)
  begin_beside-keeps kind tokens (Some job) = same
  begin_beside-keeps kind tokens None = begin_with-keeps kind tokens (first_missing tokens (will_be_aside state))

  pub begin-keeps : (kind : JobKind) (tokens : List FieldToken) → Kept (begin_job kind tokens state)
  begin-keeps kind tokens = begin_beside-keeps kind tokens state.jobs.job

  on_job-keeps : (asked : ℕ) (job : Option Job) (go : Job → Done) → ((job : Job) → Kept (go job)) → Kept (on_job state asked job go)
  on_job-keeps asked None go each = same
  on_job-keeps asked (Some job) go each = cond_both (job.number == asked) _ _ Kept (λ _. each job) (λ _. same)

  step_done-keeps : (job : Job) (done : UnitsDone) (mismatch : Option ℕ) → Kept (step_done state job done mismatch)
  step_done-keeps job done (Some field) = record { docs = refl; current = refl }
  step_done-keeps job done None = record { docs = refl; current = refl }

  pub step-keeps : (asked : ℕ) (nonces : List (List ℕ)) (counts : List Count) → Kept (step_job state asked nonces counts)
  step-keeps asked nonces counts =
      on_job-keeps asked state.jobs.job _ (λ running. let done = step_units state running nonces counts in step_done-keeps running done done.mismatch)

  end_running-keeps : (job : Job) → Kept (end_running state job)
  end_running-keeps job = cond_both (left_of state.jobs == 0) _ _ Kept (λ _. record { docs = refl; current = refl }) (λ _. same)

  pub end-keeps : (asked : ℕ) → Kept (end_job state asked)
  end-keeps asked = on_job-keeps asked state.jobs.job _ end_running-keeps

  pub abandon-keeps : (asked : ℕ) → Kept (abandon_job state asked)
  abandon-keeps asked = on_job-keeps asked state.jobs.job _ (λ running. record { docs = refl; current = refl })
