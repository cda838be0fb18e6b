-- The last job's number.
use Rattle.std.proofs.Common.{◌≡◌, ℕ, ◌+◌, List, Option, None, Some, refl}
use Rattle.std.proofs.lemmas.Bool.{cond_both}
use Rattle.std.specs.List.{list_any}
use Rattle.std.specs.Prelude.{◌==◌, nat_le}
use Rattle.qe_base.specs.declared.maintenance.Count.{Count}
use Rattle.qe_base.specs.declared.maintenance.JobKind.{JobKind}
use Rattle.qe_tokens.specs.declared.words.FieldToken.{FieldToken}
use Rattle.qe_command.specs.declared.command.Command.{Command}
use Rattle.qe_command.specs.declared.command.Command.TheVariants as c
use Rattle.qe_protocol.specs.declared.reply.Reply.{Reply}
use Rattle.qe_protocol.specs.State.{Job, State, Done, left_of}
use Rattle.qe_protocol.specs.Contention.{refusal, current_of}
use Rattle.qe_protocol.specs.Documents.{has_document}
use Rattle.qe_protocol.specs.Filters.{matches}
use Rattle.qe_protocol.specs.Jobs.{begun, fresh, resumed, is_parked, begin_with, begin_beside, first_missing, will_be_aside, on_job, step_done, step_units, end_running}
use Rattle.qe_protocol.specs.Next.{served, unless_refused, next, sets_for}
use Rattle.qe_protocol.specs.Units.{UnitsDone}
use Rattle.qe_protocol.specs.Laws.{RunsAs, IsLast}
use Rattle.qe_protocol.proofs.RefusalLemmas.{IsOther, refusal-other}

module _ (state : State) where
  abbrev Last : Done → Type 0
  Last done = IsLast state.jobs.last done.reply done.state.jobs

  abbrev IsBegun : State → Type 0
  IsBegun after = (after.jobs.last ≡ state.jobs.last + 1) × RunsAs (state.jobs.last + 1) after.jobs.job

  begun-last : (kind : JobKind) (tokens : List FieldToken) → IsBegun (begun kind tokens state)
  begun-last kind tokens =
      cond_both (is_parked state.jobs) (resumed kind tokens state) (fresh kind tokens state) IsBegun (λ _. (refl, refl)) (λ _. (refl, refl))

  begin_with-last : (kind : JobKind) (tokens : List FieldToken) (missing : Option ℕ) → Last (begin_with kind tokens state missing)
  begin_with-last kind tokens (Some field) = refl
  begin_with-last kind tokens None = (refl, begun-last kind tokens)

  begin_beside-last : (kind : JobKind) (tokens : List FieldToken) (job : Option Job) → Last (begin_beside kind tokens state job)
  begin_beside-last kind tokens (Some job) = refl
  begin_beside-last kind tokens None = begin_with-last kind tokens (first_missing tokens (will_be_aside state))

  on_job-last : (asked : ℕ) (job : Option Job) (go : Job → Done) → ((job : Job) → Last (go job)) → Last (on_job state asked job go)
  on_job-last asked None go each = refl
  on_job-last asked (Some job) go each = cond_both (job.number == asked) _ _ Last (λ _. each job) (λ _. refl)

  step_done-last : (job : Job) (done : UnitsDone) (mismatch : Option ℕ) → Last (step_done state job done mismatch)
  step_done-last job done (Some field) = refl
  step_done-last job done None = refl

  end_running-last : (job : Job) → Last (end_running state job)
  end_running-last job = cond_both (left_of state.jobs == 0) _ _ Last (λ _. refl) (λ _. refl)

  served-last : (command : Command) (nonces : List (List ℕ)) (counts : List Count) → Last (served state command nonces counts)
  served-last (c.Insert id cells) nonces counts = cond_both (has_document id state.docs) _ _ Last (λ _. refl) (λ _. refl)
  served-last (c.Find terms ids) nonces counts = cond_both ids _ _ (λ reply. IsLast state.jobs.last reply state.jobs) (λ _. refl) (λ _. refl)
  served-last (c.Update terms set) nonces counts =
      cond_both (list_any (matches (sets_for state terms counts)) state.docs) _ _ Last (λ _. refl) (λ _. refl)
  served-last (c.Delete terms) nonces counts =
      cond_both (list_any (matches (sets_for state terms counts)) state.docs) _ _ Last (λ _. refl) (λ _. refl)
  served-last (c.Begin kind tokens) nonces counts = begin_beside-last kind tokens state.jobs.job
  served-last (c.Step job limit) nonces counts =
      on_job-last job state.jobs.job _ (λ running. let done = step_units state running nonces counts in step_done-last running done done.mismatch)
  served-last (c.End job) nonces counts = on_job-last job state.jobs.job _ end_running-last
  served-last (c.Abandon job) nonces counts = on_job-last job state.jobs.job _ (λ running. refl)
  served-last (c.Raise field contention) nonces counts = cond_both (nat_le contention (current_of state.current field)) _ _ Last (λ _. refl) (λ _. refl)

  unless_refused-last : (refused : Option Reply) (done : Done) → IsOther (λ reply. IsLast state.jobs.last reply state.jobs) refused → Last done → Last (unless_refused state refused done)
  unless_refused-last None done other is = is
  unless_refused-last (Some reply) done other is = other

pub next-last : (state : State) (command : Command) (nonces : List (List ℕ)) (counts : List Count)
    → IsLast state.jobs.last (next state command nonces counts).reply (next state command nonces counts).state.jobs
next-last state command nonces counts =
    unless_refused-last state (refusal state.current command) (served state command nonces counts)
    (refusal-other (λ reply. IsLast state.jobs.last reply state.jobs) (λ _ _ _. refl) (λ _ _ _. refl) state.current command) (served-last state command nonces counts)
