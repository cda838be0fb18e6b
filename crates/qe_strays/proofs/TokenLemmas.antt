-- The job that runs has the tokens of the last begin.
use Rattle.std.proofs.Common.{◌≡◌, ℕ, List, Option, None, Some, refl}
use Rattle.std.proofs.lemmas.Bool.{cond_both}
use Rattle.std.specs.List.{list_any}
use Rattle.std.specs.Prelude.{◌==◌, nat_le}
use Rattle.qe_base.specs.declared.maintenance.Count.{Count}
use Rattle.qe_base.specs.declared.maintenance.JobKind.{JobKind}
use Rattle.qe_command.specs.declared.command.Command.{Command}
use Rattle.qe_command.specs.declared.command.Command.TheVariants as c
use Rattle.qe_protocol.specs.Contention.{current_of, refusal}
use Rattle.qe_protocol.specs.Documents.{has_document}
use Rattle.qe_protocol.specs.Filters.{matches}
use Rattle.qe_protocol.specs.Jobs.{begin_beside, begin_with, begun, end_running, first_missing, fresh, is_parked, on_job, resumed, step_done, step_units, will_be_aside}
use Rattle.qe_protocol.specs.Next.{next, outcome_of, served, sets_for, unless_refused}
use Rattle.qe_protocol.specs.State.{Done, Job, State, left_of}
use Rattle.qe_protocol.specs.Units.{UnitsDone}
use Rattle.qe_protocol.specs.declared.reply.Reply.{Reply}
use Rattle.qe_tokens.specs.declared.words.FieldToken.{FieldToken}
use Rattle.qe_strays.specs.Strays.{tokens_after}
use Rattle.qe_strays.proofs.OpenedLemmas.{Holds}

module _ (state : State) (nonces : List (List ℕ)) (counts : List Count) (tokens : List FieldToken) (holds : Holds tokens state.jobs.job) where
  -- the tokens stay
  abbrev Kept : Done → Type 0
  Kept done = Holds tokens done.state.jobs.job

  kept_refused : (refused : Option Reply) (done : Done) → Kept done → Kept (unless_refused state refused done)
  kept_refused None done kept = kept
  kept_refused (Some reply) done kept = holds

  -- .. by each command but a begin
  kept_on : (asked : ℕ) (job : Option Job) (go : Job → Done) → Holds tokens job → ((running : Job) → running.tokens ≡ tokens → Kept (go running)) → Kept (on_job state asked job go)
  kept_on asked None go of each = holds
  kept_on asked (Some job) go of each = cond_both (job.number == asked) _ _ Kept (λ _. each job of) (λ _. holds)

  kept_step : (job : Job) → job.tokens ≡ tokens → (done : UnitsDone) (mismatch : Option ℕ) → Kept (step_done state job done mismatch)
  kept_step job of done (Some field) = tt
  kept_step job of done None = of

  kept_end : (job : Job) → Kept (end_running state job)
  kept_end job = cond_both (left_of state.jobs == 0) _ _ Kept (λ _. tt) (λ _. holds)

  -- a begin that is answered so sets them
  abbrev Begins : JobKind → List FieldToken → Done → Type 0
  Begins kind sent done = Holds (tokens_after tokens (c.Begin kind sent) (outcome_of done.reply)) done.state.jobs.job

  begins_with : (kind : JobKind) (sent : List FieldToken) (missing : Option ℕ) → Begins kind sent (begin_with kind sent state missing)
  begins_with kind sent (Some field) = holds
  begins_with kind sent None =
      cond_both (is_parked state.jobs) (resumed kind sent state) (fresh kind sent state) (λ (after : State). Holds sent after.jobs.job) (λ _. refl) (λ _. refl)

  begins : (kind : JobKind) (sent : List FieldToken) (job : Option Job) → Begins kind sent (begin_beside kind sent state job)
  begins kind sent (Some job) = holds
  begins kind sent None = begins_with kind sent (first_missing sent (will_be_aside state))

  pub tokens_kept : (command : Command) → let done = next state command nonces counts in Holds (tokens_after tokens command (outcome_of done.reply)) done.state.jobs.job
  tokens_kept (c.Insert id cells) =
      kept_refused (refusal state.current (c.Insert id cells)) (served state (c.Insert id cells) nonces counts)
      (cond_both (has_document id state.docs) _ _ Kept (λ _. holds) (λ _. holds))
  tokens_kept (c.Find terms ids) = kept_refused (refusal state.current (c.Find terms ids)) (served state (c.Find terms ids) nonces counts) holds
  tokens_kept (c.Update terms set) =
      kept_refused (refusal state.current (c.Update terms set)) (served state (c.Update terms set) nonces counts)
      (cond_both (list_any (matches (sets_for state terms counts)) state.docs) _ _ Kept (λ _. holds) (λ _. holds))
  tokens_kept (c.Delete terms) =
      kept_refused (refusal state.current (c.Delete terms)) (served state (c.Delete terms) nonces counts)
      (cond_both (list_any (matches (sets_for state terms counts)) state.docs) _ _ Kept (λ _. holds) (λ _. holds))
  tokens_kept (c.Begin kind sent) = begins kind sent state.jobs.job
  tokens_kept (c.Step asked limit) =
      kept_on asked state.jobs.job _ holds (λ running of. let done = step_units state running nonces counts in kept_step running of done done.mismatch)
  tokens_kept (c.End asked) = kept_on asked state.jobs.job _ holds (λ running of. kept_end running)
  tokens_kept (c.Abandon asked) = kept_on asked state.jobs.job _ holds (λ running of. tt)
  tokens_kept (c.Raise field contention) = cond_both (nat_le contention (current_of state.current field)) _ _ Kept (λ _. holds) (λ _. holds)
