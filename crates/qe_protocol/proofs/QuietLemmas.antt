-- A reply that says that nothing was changed: then nothing was.
use Rattle.std.proofs.Common.{◌≡◌, ℕ, List, true, Option, None, Some, refl}
use Rattle.std.proofs.lemmas.Bool.{cond_both, false≢true}
use Rattle.std.specs.List.{list_any}
use Rattle.std.specs.Prelude.{◌==◌, nat_le}
use Rattle.qe_base.specs.declared.maintenance.Count.{Count}
use Rattle.qe_base.specs.declared.maintenance.JobKind.{JobKind}
use Rattle.qe_tokens.specs.declared.words.FieldToken.{FieldToken}
use Rattle.qe_command.specs.declared.command.Command.{Command}
use Rattle.qe_command.specs.declared.command.Command.TheVariants as c
use Rattle.qe_protocol.specs.declared.reply.Reply.{Reply}
use Rattle.qe_protocol.specs.State.{Job, State, Done, left_of}
use Rattle.qe_protocol.specs.Contention.{refusal, current_of}
use Rattle.qe_protocol.specs.Documents.{has_document}
use Rattle.qe_protocol.specs.Filters.{matches}
use Rattle.qe_protocol.specs.Jobs.{begin_with, begin_beside, first_missing, will_be_aside, on_job, step_done, step_units, end_running}
use Rattle.qe_protocol.specs.Next.{served, unless_refused, next, sets_for}
use Rattle.qe_protocol.specs.Units.{UnitsDone}
use Rattle.qe_protocol.specs.Laws.{changes_nothing}

module _ (state : State) where
  abbrev Quiet : Done → Type 0
  Quiet done = changes_nothing done.reply ≡ true → done.state ≡ state

  begin_with-quiet : (kind : JobKind) (tokens : List FieldToken) (missing : Option ℕ) → Quiet (begin_with kind tokens state missing)
  begin_with-quiet kind tokens (Some field) = λ _. refl
  begin_with-quiet kind tokens None = λ not. absurd (false≢true not)

  begin_beside-quiet : (kind : JobKind) (tokens : List FieldToken) (job : Option Job) → Quiet (begin_beside kind tokens state job)
  begin_beside-quiet kind tokens (Some job) = λ _. refl
  begin_beside-quiet kind tokens None = begin_with-quiet kind tokens (first_missing tokens (will_be_aside state))

  on_job-quiet : (asked : ℕ) (job : Option Job) (go : Job → Done) → ((job : Job) → Quiet (go job)) → Quiet (on_job state asked job go)
  on_job-quiet asked None go each = λ _. refl
  on_job-quiet asked (Some job) go each = cond_both (job.number == asked) _ _ Quiet (λ _. each job) (λ _ _. refl)

  step_done-quiet : (job : Job) (done : UnitsDone) (mismatch : Option ℕ) → Quiet (step_done state job done mismatch)
  step_done-quiet job done (Some field) = λ not. absurd (false≢true not)
  step_done-quiet job done None = λ not. absurd (false≢true not)

  end_running-quiet : (job : Job) → Quiet (end_running state job)
  end_running-quiet job = cond_both (left_of state.jobs == 0) _ _ Quiet (λ _ not. absurd (false≢true not)) (λ _ _. refl)

  served-quiet : (command : Command) (nonces : List (List ℕ)) (counts : List Count) → Quiet (served state command nonces counts)
  served-quiet (c.Insert id cells) nonces counts = cond_both (has_document id state.docs) _ _ Quiet (λ _ _. refl) (λ _ not. absurd (false≢true not))
  served-quiet (c.Find terms ids) nonces counts = λ _. refl
  served-quiet (c.Update terms set) nonces counts =
      cond_both (list_any (matches (sets_for state terms counts)) state.docs) _ _ Quiet (λ _ not. absurd (false≢true not)) (λ _ _. refl)
  served-quiet (c.Delete terms) nonces counts =
      cond_both (list_any (matches (sets_for state terms counts)) state.docs) _ _ Quiet (λ _ not. absurd (false≢true not)) (λ _ _. refl)
  served-quiet (c.Begin kind tokens) nonces counts = begin_beside-quiet kind tokens state.jobs.job
  served-quiet (c.Step job limit) nonces counts =
      on_job-quiet job state.jobs.job _ (λ running. let done = step_units state running nonces counts in step_done-quiet running done done.mismatch)
  served-quiet (c.End job) nonces counts = on_job-quiet job state.jobs.job _ end_running-quiet
  served-quiet (c.Abandon job) nonces counts = on_job-quiet job state.jobs.job _ (λ running not. absurd (false≢true not))
  served-quiet (c.Raise field contention) nonces counts =
      cond_both (nat_le contention (current_of state.current field)) _ _ Quiet (λ _ _. refl) (λ _ not. absurd (false≢true not))

  unless_refused-quiet : (refused : Option Reply) (done : Done) → Quiet done → Quiet (unless_refused state refused done)
  unless_refused-quiet None done quiet = quiet
  unless_refused-quiet (Some reply) done quiet = λ _. refl

pub next-quiet : (state : State) (command : Command) (nonces : List (List ℕ)) (counts : List Count)
    → changes_nothing (next state command nonces counts).reply ≡ true → (next state command nonces counts).state ≡ state
next-quiet state command nonces counts =
    unless_refused-quiet state (refusal state.current command) (served state command nonces counts) (served-quiet state command nonces counts)
