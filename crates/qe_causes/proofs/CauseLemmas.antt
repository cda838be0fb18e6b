-- Each refusal's cause: it is there where the refusal comes, and the refusal comes where it is there.
use Rattle.std.proofs.Common.{◌≡◌, ◌≢◌, ℕ, true, false, cond, List, [], ◌∷◌, ◌++◌, Option, None, Some, refl, sym, ap, ◌∙◌, subst, ◌==◌, ◌≤◌, arith}
use Rattle.std.specs.Prelude.{nat_le, slice_set}
use Rattle.std.specs.List.{list_any, AllByRecursion}
use Rattle.std.proofs.lemmas.Bool.{cond_both, eqb-true, eq-eqb, ne_eqb, leb-true, le-leb, false≢true}
use Rattle.qe_base.specs.declared.maintenance.Count.{Count}
use Rattle.qe_base.specs.declared.maintenance.JobKind.{JobKind}
use Rattle.qe_tokens.specs.declared.words.FieldToken.{FieldToken}
use Rattle.qe_command.specs.declared.cells.SentCell.{SentCell}
use Rattle.qe_command.specs.declared.command.Command.{Command}
use Rattle.qe_command.specs.declared.command.Command.TheVariants as c
use Rattle.qe_command.specs.declared.filter.SentTerm.{SentTerm}
use Rattle.qe_protocol.specs.declared.reply.Reply.{Reply}
use Rattle.qe_protocol.specs.declared.reply.Reply.TheVariants as r
use Rattle.qe_protocol.specs.State.{Job, State, Done, left_of, answered}
use Rattle.qe_protocol.specs.Contention.{refusal, current_of, or_else, filter_below, cells_over, with_current}
use Rattle.qe_protocol.specs.Documents.{has_document}
use Rattle.qe_protocol.specs.Filters.{matches}
use Rattle.qe_protocol.specs.Indexing.{index_cells}
use Rattle.qe_protocol.specs.Jobs.{begin_with, begin_beside, first_missing, will_be_aside, on_job, step_done, step_units, work_of, end_running, without_job}
use Rattle.qe_protocol.specs.Laws.{RunsAs}
use Rattle.qe_protocol.specs.Next.{served, unless_refused, next, sets_for, inserted}
use Rattle.qe_causes.specs.Causes.{IsFirstOf, AsksForAll, IsInUse, filter_of, values_of, MeetsId, MeetsJob, LacksToken, job_asked, RunsOther, EndsEarly, RaisesNothing, MismatchesIn, MeetsMismatch, is_refusal, IsCaused, EachHasItsCause}
use Rattle.qe_causes.proofs.FirstLemmas.{none_some, same_some}
use Rattle.qe_causes.proofs.ContentionLemmas.{TermFails, CellFails, filter_passes, filter_quiet, filter_fails, filter_refuses, cells_pass, cells_quiet, cells_fail, cells_refuse, missing_fails, missing_is}
use Rattle.qe_causes.proofs.TurnLemmas.{mismatches, is_mismatched}

by_front : {A : Type 0} (front : List A) (one : A) (back : List A) → [] ≡ front ++ one ∷ back → ⊥
by_front [] one back e = cc
by_front (x ∷ front) one back e = cc

differs : (a b : ℕ) → (a == b) ≡ false → a ≢ b
differs a b f same = absurd (false≢true (sym f ∙ eq-eqb a b same))

module _ (state : State) (nonces : List (List ℕ)) (counts : List Count) where
  abbrev Cause : Command → Reply → Type 0
  Cause command reply = IsCaused state command nonces counts reply

  -- REFUSED BY CONTENTION

  filter_by : (command : Command) (reply : Reply) → IsFirstOf (AsksForAll state.current) (TermFails state.current reply) (filter_of command) → Cause command reply
  filter_by command (r.ContentionBelow field got at) first = first
  filter_by command _ first = absurd first.fails

  filter_cause : (command : Command) (reply : Reply) → filter_below state.current (filter_of command) ≡ Some reply → Cause command reply
  filter_cause command reply some = filter_by command reply (filter_fails state.current (filter_of command) reply some)

  values_by : (command : Command) (reply : Reply) → AllByRecursion (AsksForAll state.current) (filter_of command)
      → IsFirstOf (IsInUse state.current) (CellFails state.current reply) (values_of command) → Cause command reply
  values_by command (r.ContentionOver field got at) all first = (all, first)
  values_by command _ all first = absurd first.fails

  values_cause : (command : Command) (reply : Reply) → filter_below state.current (filter_of command) ≡ None
      → cells_over state.current (values_of command) ≡ Some reply → Cause command reply
  values_cause command reply none some =
      values_by command reply (filter_passes state.current (filter_of command) none) (cells_fail state.current (values_of command) reply some)

  update_cause : (terms : List SentTerm) (set : List (ℕ × SentCell)) (reply : Reply) (found : Option Reply) → filter_below state.current terms ≡ found
      → or_else found (cells_over state.current set) ≡ Some reply → Cause (c.Update terms set) reply
  update_cause terms set reply None is some = values_cause (c.Update terms set) reply is some
  update_cause terms set reply (Some other) is some = filter_cause (c.Update terms set) reply (is ∙ some)

  refusal_cause : (command : Command) (reply : Reply) → refusal state.current command ≡ Some reply → Cause command reply
  refusal_cause (c.Insert id cells) reply some = values_cause (c.Insert id cells) reply refl some
  refusal_cause (c.Find terms ids) reply some = filter_cause (c.Find terms ids) reply some
  refusal_cause (c.Update terms set) reply some = update_cause terms set reply (filter_below state.current terms) refl some
  refusal_cause (c.Delete terms) reply some = filter_cause (c.Delete terms) reply some
  refusal_cause _ reply some = absurd (none_some reply some)

  -- REFUSED WHEN IT IS SERVED

  begin_with_cause : (kind : JobKind) (tokens : List FieldToken) → state.jobs.job ≡ None → (missing : Option ℕ) → first_missing tokens (will_be_aside state) ≡ missing
      → Cause (c.Begin kind tokens) (begin_with kind tokens state missing).reply
  begin_with_cause kind tokens none (Some field) is = (none, missing_fails tokens (will_be_aside state) field is)
  begin_with_cause kind tokens none None is = tt

  begin_cause : (kind : JobKind) (tokens : List FieldToken) (job : Option Job) → state.jobs.job ≡ job → Cause (c.Begin kind tokens) (begin_beside kind tokens state job).reply
  begin_cause kind tokens (Some job) is = subst (RunsAs job.number) (sym is) refl
  begin_cause kind tokens None is = begin_with_cause kind tokens is (first_missing tokens (will_be_aside state)) refl

  on_job_cause : (command : Command) (asked : ℕ) → job_asked command ≡ Some asked → (job : Option Job) → state.jobs.job ≡ job → (go : Job → Done)
      → ((running : Job) → state.jobs.job ≡ Some running → running.number ≡ asked → Cause command (go running).reply)
      → Cause command (on_job state asked job go).reply
  on_job_cause command asked asks None is go each = (asks, subst (RunsOther asked 0) (sym is) refl)
  on_job_cause command asked asks (Some job) is go each =
      cond_both (job.number == asked) (go job) (answered state (r.NoJob asked job.number)) (λ (done : Done). Cause command done.reply)
      (λ same. each job is (eqb-true job.number asked same))
      (λ other. (asks, subst (RunsOther asked job.number) (sym is) (refl, differs job.number asked other)))

  step_cause : (asked limit : ℕ) (job : Job) → state.jobs.job ≡ Some job → job.number ≡ asked → (mismatch : Option ℕ)
      → (step_units state job nonces counts).mismatch ≡ mismatch
      → Cause (c.Step asked limit) (step_done state job (step_units state job nonces counts) mismatch).reply
  step_cause asked limit job runs number (Some field) is =
      subst (MismatchesIn state asked nonces counts field) (sym runs) (number, mismatches job.kind job.tokens field nonces (work_of state job) counts is)
  step_cause asked limit job runs number None is = tt

  end_cause : (asked : ℕ) (job : Job) → state.jobs.job ≡ Some job → job.number ≡ asked → Cause (c.End asked) (end_running state job).reply
  end_cause asked job runs number =
      cond_both (left_of state.jobs == 0) (answered (without_job state) (r.Ended job.leaves)) (answered state (r.NotDone (left_of state.jobs)))
      (λ (done : Done). Cause (c.End asked) done.reply) (λ _. tt)
      (λ some. (subst (RunsAs asked) (sym runs) number, refl, differs (left_of state.jobs) 0 some))

  served_cause : (command : Command) → refusal state.current command ≡ None → Cause command (served state command nonces counts).reply
  served_cause (c.Insert id cells) none =
      cond_both (has_document id state.docs) (answered state r.DuplicateId) (inserted state id (index_cells state.index cells nonces counts))
      (λ (done : Done). Cause (c.Insert id cells) done.reply) (λ there. (cells_pass state.current cells none, there)) (λ _. tt)
  served_cause (c.Find terms ids) none = cond_both ids _ _ (λ (reply : Reply). Cause (c.Find terms ids) reply) (λ _. tt) (λ _. tt)
  served_cause (c.Update terms set) none =
      cond_both (list_any (matches (sets_for state terms counts)) state.docs) _ _ (λ (done : Done). Cause (c.Update terms set) done.reply) (λ _. tt) (λ _. tt)
  served_cause (c.Delete terms) none =
      cond_both (list_any (matches (sets_for state terms counts)) state.docs) _ _ (λ (done : Done). Cause (c.Delete terms) done.reply) (λ _. tt) (λ _. tt)
  served_cause (c.Begin kind tokens) none = begin_cause kind tokens state.jobs.job refl
  served_cause (c.Step asked limit) none =
      on_job_cause (c.Step asked limit) asked refl state.jobs.job refl _
      (λ job runs number. step_cause asked limit job runs number (step_units state job nonces counts).mismatch refl)
  served_cause (c.End asked) none = on_job_cause (c.End asked) asked refl state.jobs.job refl (end_running state) (end_cause asked)
  served_cause (c.Abandon asked) none =
      on_job_cause (c.Abandon asked) asked refl state.jobs.job refl (λ job. answered (without_job state) r.Abandoned) (λ job runs number. tt)
  served_cause (c.Raise field contention) none =
      cond_both (nat_le contention (current_of state.current field)) _ _ (λ (done : Done). Cause (c.Raise field contention) done.reply)
      (λ within. (refl, refl, leb-true contention (current_of state.current field) within)) (λ _. tt)

  by_refusal : (command : Command) (found : Option Reply) → refusal state.current command ≡ found
      → Cause command (unless_refused state found (served state command nonces counts)).reply
  by_refusal command None is = served_cause command is
  by_refusal command (Some reply) is = refusal_cause command reply is

  next_cause : (command : Command) → Cause command (next state command nonces counts).reply
  next_cause command = by_refusal command (refusal state.current command) refl

  -- WHERE A CAUSE IS THERE

  abbrev Answer : Command → Reply
  Answer command = (next state command nonces counts).reply

  not_refused : (command : Command) → refusal state.current command ≡ None → Answer command ≡ (served state command nonces counts).reply
  not_refused command none = ap (λ found. (unless_refused state found (served state command nonces counts)).reply) none

  refused_so : (command : Command) (reply : Reply) → refusal state.current command ≡ Some reply → Answer command ≡ reply
  refused_so command reply some = ap (λ found. (unless_refused state found (served state command nonces counts)).reply) some

  duplicate_comes : (command : Command) → MeetsId state command → Answer command ≡ r.DuplicateId
  duplicate_comes (c.Insert id cells) is =
      not_refused (c.Insert id cells) (cells_quiet state.current cells is.0)
      ∙ ap (λ b. (cond b (answered state r.DuplicateId) (inserted state id (index_cells state.index cells nonces counts))).reply) is.1
  duplicate_comes _ is = absurd is

  begin_meets : (kind : JobKind) (tokens : List FieldToken) (number : ℕ) (job : Option Job) → RunsAs number job
      → (begin_beside kind tokens state job).reply ≡ r.JobRunning number
  begin_meets kind tokens number None is = absurd is
  begin_meets kind tokens number (Some job) is = ap (λ n. r.JobRunning n) is

  job_comes : (command : Command) (number : ℕ) → MeetsJob state command number → Answer command ≡ r.JobRunning number
  job_comes (c.Begin kind tokens) number is = begin_meets kind tokens number state.jobs.job is
  job_comes _ number is = absurd is

  token_comes : (command : Command) (field : ℕ) → LacksToken state command field → Answer command ≡ r.TokenMissing field
  token_comes (c.Begin kind tokens) field is =
      ap (λ job. (begin_beside kind tokens state job).reply) is.0
      ∙ ap (λ missing. (begin_with kind tokens state missing).reply) (missing_is tokens (will_be_aside state) field is.1)
  token_comes _ field is = absurd is

  other_runs : (number asked running : ℕ) → number ≡ asked → (job : Option Job) → RunsOther asked running job → (go : Job → Done)
      → (on_job state number job go).reply ≡ r.NoJob asked running
  other_runs number asked running same None is go = λ i. r.NoJob (same i) (sym is i)
  other_runs number asked running same (Some job) is go =
      ap (λ b. (cond b (go job) (answered state (r.NoJob number job.number))).reply) (ne_eqb job.number number (λ e. is.1 (sym is.0 ∙ e ∙ same)))
      ∙ (λ i. r.NoJob (same i) (is.0 i))

  other_comes : (command : Command) (asked running : ℕ) → job_asked command ≡ Some asked → RunsOther asked running state.jobs.job
      → Answer command ≡ r.NoJob asked running
  other_comes (c.Step number limit) asked running asks is = other_runs number asked running (same_some number asked asks) state.jobs.job is _
  other_comes (c.End number) asked running asks is = other_runs number asked running (same_some number asked asks) state.jobs.job is (end_running state)
  other_comes (c.Abandon number) asked running asks is =
      other_runs number asked running (same_some number asked asks) state.jobs.job is (λ job. answered (without_job state) r.Abandoned)
  other_comes _ asked running asks is = absurd (none_some asked asks)

  abbrev go_on : Job → Done
  go_on job = step_done state job (step_units state job nonces counts) (step_units state job nonces counts).mismatch

  step_meets : (asked field : ℕ) (job : Option Job) → MismatchesIn state asked nonces counts field job → (on_job state asked job go_on).reply ≡ r.TokenMismatch field
  step_meets asked field None is = absurd is
  step_meets asked field (Some job) is =
      ap (λ b. (cond b (go_on job) (answered state (r.NoJob asked job.number))).reply) (eq-eqb job.number asked is.0)
      ∙ ap (λ mismatch. (step_done state job (step_units state job nonces counts) mismatch).reply) (is_mismatched job.kind job.tokens field nonces (work_of state job) counts is.1)

  mismatch_comes : (command : Command) (field : ℕ) → MeetsMismatch state command nonces counts field → Answer command ≡ r.TokenMismatch field
  mismatch_comes (c.Step asked limit) field is = step_meets asked field state.jobs.job is
  mismatch_comes _ field is = absurd is

  end_meets : (asked left : ℕ) (job : Option Job) → RunsAs asked job → left ≡ left_of state.jobs → left ≢ 0 → (on_job state asked job (end_running state)).reply ≡ r.NotDone left
  end_meets asked left None runs is some = absurd runs
  end_meets asked left (Some job) runs is some =
      ap (λ b. (cond b (end_running state job) (answered state (r.NoJob asked job.number))).reply) (eq-eqb job.number asked runs)
      ∙ ap (λ b. (cond b (answered (without_job state) (r.Ended job.leaves)) (answered state (r.NotDone (left_of state.jobs)))).reply)
      (ne_eqb (left_of state.jobs) 0 (λ e. some (is ∙ e)))
      ∙ ap (λ n. r.NotDone n) (sym is)

  end_comes : (command : Command) (left : ℕ) → EndsEarly state command left → Answer command ≡ r.NotDone left
  end_comes (c.End asked) left is = end_meets asked left state.jobs.job is.0 is.1 is.2
  end_comes _ left is = absurd is

  raise_comes : (command : Command) (asked at : ℕ) → RaisesNothing state command asked at → Answer command ≡ r.NotRaised asked at
  raise_comes (c.Raise field contention) asked at is =
      let within : contention ≤ current_of state.current field = omega (arith, is.0, is.1, is.2) in
      ap (λ b. (cond b (answered state (r.NotRaised contention (current_of state.current field))) (answered (with_current state (slice_set state.current field contention)) (r.Raised contention))).reply)
      (le-leb contention (current_of state.current field) within)
      ∙ (λ i. r.NotRaised (sym is.0 i) (sym is.1 i))
  raise_comes _ asked at is = absurd is

  no_first : {A : Type 0} (Passes Fails : A → Type 0) → IsFirstOf Passes Fails [] → ⊥
  no_first Passes Fails first = by_front first.front first.one first.back first.are

  abbrev BelowFirst : Command → ℕ → ℕ → ℕ → Type 0
  BelowFirst command field got at = IsFirstOf (AsksForAll state.current) (TermFails state.current (r.ContentionBelow field got at)) (filter_of command)

  below_comes : (command : Command) (field got at : ℕ) → BelowFirst command field got at → Answer command ≡ r.ContentionBelow field got at
  below_comes (c.Find terms ids) field got at first =
      refused_so (c.Find terms ids) (r.ContentionBelow field got at) (filter_refuses state.current terms (r.ContentionBelow field got at) first)
  below_comes (c.Update terms set) field got at first =
      refused_so (c.Update terms set) (r.ContentionBelow field got at)
      (ap (λ found. or_else found (cells_over state.current set)) (filter_refuses state.current terms (r.ContentionBelow field got at) first))
  below_comes (c.Delete terms) field got at first =
      refused_so (c.Delete terms) (r.ContentionBelow field got at) (filter_refuses state.current terms (r.ContentionBelow field got at) first)
  below_comes _ field got at first = absurd (no_first _ _ first)

  abbrev OverFirst : Command → ℕ → ℕ → ℕ → Type 0
  OverFirst command field got at = IsFirstOf (IsInUse state.current) (CellFails state.current (r.ContentionOver field got at)) (values_of command)

  over_comes : (command : Command) (field got at : ℕ) → AllByRecursion (AsksForAll state.current) (filter_of command) → OverFirst command field got at
      → Answer command ≡ r.ContentionOver field got at
  over_comes (c.Insert id cells) field got at all first =
      refused_so (c.Insert id cells) (r.ContentionOver field got at) (cells_refuse state.current cells (r.ContentionOver field got at) first)
  over_comes (c.Update terms set) field got at all first =
      refused_so (c.Update terms set) (r.ContentionOver field got at)
      (ap (λ found. or_else found (cells_over state.current set)) (filter_quiet state.current terms all)
      ∙ cells_refuse state.current set (r.ContentionOver field got at) first)
  over_comes _ field got at all first = absurd (no_first _ _ first)

  comes : (command : Command) (reply : Reply) → is_refusal reply ≡ true → Cause command reply → Answer command ≡ reply
  comes command r.DuplicateId refuses is = duplicate_comes command is
  comes command (r.JobRunning job) refuses is = job_comes command job is
  comes command (r.NoJob asked running) refuses is = other_comes command asked running is.0 is.1
  comes command (r.TokenMissing field) refuses is = token_comes command field is
  comes command (r.TokenMismatch field) refuses is = mismatch_comes command field is
  comes command (r.NotDone left) refuses is = end_comes command left is
  comes command (r.NotRaised asked at) refuses is = raise_comes command asked at is
  comes command (r.ContentionBelow field got at) refuses is = below_comes command field got at is
  comes command (r.ContentionOver field got at) refuses is = over_comes command field got at is.0 is.1
  comes command _ refuses is = absurd (false≢true refuses)

pub each_has_its_cause : EachHasItsCause
each_has_its_cause state command nonces counts reply refuses =
    ((λ is. subst (IsCaused state command nonces counts) is (next_cause state nonces counts command)), comes state nonces counts command reply refuses)
