-- What a step leads to, where its units were planned and carried out.
use Rattle.std.proofs.Common.{◌≡◌, ℕ, ◌==◌, ◌++◌, List, [], drop, Option, None, Some, refl, sym, ap, ◌∙◌, subst, eq-eqb, true, if◌then◌else◌}
use Rattle.std.specs.Bool.{MatchBool}
use Rattle.qe_base.specs.declared.maintenance.Count.{Count}
use Rattle.qe_esc.specs.Rows.{Rows}
use Rattle.qe_esc.specs.Changes.{changed}
use Rattle.qe_ecoc.specs.declared.rows.Entry.{Entry}
use Rattle.qe_store.specs.declared.stored.Stored.{Stored}
use Rattle.qe_protocol.specs.declared.reply.Reply.TheVariants as r
use Rattle.qe_protocol.specs.State.{Job, Jobs, State, Done, answered, left_of}
use Rattle.qe_protocol.specs.Units.{UnitsDone, stopped, AllowedUnits}
use Rattle.qe_protocol.specs.Jobs.{on_job, AllowedOn, AllowedStep, step_job, step_units, step_done, with_leaves}
use Rattle.qe_compact.specs.declared.draft.Planned.{Planned}
use Rattle.qe_compact.specs.Parts.{state_with, work_with, kept, leaves_now, parked}
use Rattle.qe_compact.specs.Drafts.{drafted}
use Rattle.qe_compact.specs.Turns.{fields_of}
use Rattle.qe_compact.specs.Answers.{IsPlanned, StepsAndNotes}

module _ (nonces : List (List ℕ)) (rows : Rows) (jobs : Jobs) (counts : List Count) (opened : List ℕ) (planned : Planned) (plan : IsPlanned nonces rows jobs counts opened planned) where
  asked : (plan.job.number == plan.job.number) ≡ true
  asked = eq-eqb plan.job.number plan.job.number refl

  module _ (docs : List Stored) (current : List ℕ) (ecoc : List Entry) where
    abbrev state : State
    state = state_with docs current rows ecoc jobs

    abbrev go : Job → Done
    go job = step_done state job (step_units state job nonces plan.run.searched) (step_units state job nonces plan.run.searched).mismatch

    abbrev Go : Job → Type 0
    Go job = AllowedUnits job.kind job.tokens nonces (work_with rows jobs job) plan.run.searched

    abbrev IsUncounted : List Count → Type 0
    IsUncounted none = none ≡ []

    is_allowed : AllowedStep state plan.job.number nonces plan.run.searched
    is_allowed =
        subst (λ (job : Option Job). AllowedOn plan.job.number job plan.run.searched Go) (sym plan.runs)
        (subst (λ b. MatchBool b (Go plan.job) (IsUncounted plan.run.searched)) (sym asked) plan.run.allowed)

    abbrev done : UnitsDone
    done = stopped (drafted rows jobs planned.draft) planned.mismatch plan.run.rows []

    does_step : step_job state plan.job.number nonces plan.run.searched ≡ step_done state plan.job done planned.mismatch
    does_step =
        ap (λ (job : Option Job). on_job state plan.job.number job go) plan.runs
        ∙ ap (λ b. if b then go plan.job else answered state (r.NoJob plan.job.number plan.job.number)) asked
        ∙ ap (λ (units : UnitsDone). step_done state plan.job units units.mismatch) plan.run.does

  module _ (rows_after : Rows) (after : Jobs) (rows_is : rows_after ≡ changed rows planned.draft.plan.changes) where
    pub steps_on : planned.mismatch ≡ None → after ≡ kept jobs planned.draft.plan planned.draft.taken → (left : ℕ) → left ≡ left_of after
        → StepsAndNotes nonces rows jobs rows_after after counts planned.draft.counts opened planned.draft.opened (r.Stepped left)
    steps_on none after_is left left_is =
        let taken = planned.draft.taken in
        let running : Jobs = record {
          aside = drop taken.rows jobs.aside;
          captured = drop taken.captured jobs.captured;
          doomed = drop taken.doomed (jobs.doomed ++ planned.draft.plan.doomed);
          job = Some (with_leaves plan.job taken.leaves);
          last = jobs.last;
        } in
        let same : running ≡ after = sym (after_is ∙ (λ i. record {
          aside = drop taken.rows jobs.aside;
          captured = drop taken.captured jobs.captured;
          doomed = drop taken.doomed (jobs.doomed ++ planned.draft.plan.doomed);
          job = leaves_now (plan.runs i) taken.leaves;
          last = jobs.last;
        })) in
        let left_same : left_of running ≡ left = ap left_of same ∙ sym left_is in
        record {
          searched = plan.run.searched;
          fields = fields_of plan.run.rows;
          all_counts = plan.run.noted.all_counts;
          all_opened = plan.run.noted.all_opened;
          steps = record {
            job = plan.job;
            runs = plan.runs;
            allowed = is_allowed;
            does = λ docs current ecoc.
                does_step docs current ecoc ∙ ap (step_done (state_with docs current rows ecoc jobs) plan.job (done docs current ecoc)) none
                ∙ (λ i. record { state = state_with docs current (sym rows_is i) ecoc (same i); reply = r.Stepped (left_same i); opened = fields_of plan.run.rows });
          };
        }

    pub steps_wrong : (field : ℕ) → planned.mismatch ≡ Some field → after ≡ parked (kept jobs planned.draft.plan planned.draft.taken)
        → StepsAndNotes nonces rows jobs rows_after after counts planned.draft.counts opened planned.draft.opened (r.TokenMismatch field)
    steps_wrong field wrong after_is = record {
      searched = plan.run.searched;
      fields = fields_of plan.run.rows;
      all_counts = plan.run.noted.all_counts;
      all_opened = plan.run.noted.all_opened;
      steps = record {
        job = plan.job;
        runs = plan.runs;
        allowed = is_allowed;
        does = λ docs current ecoc.
            does_step docs current ecoc ∙ ap (step_done (state_with docs current rows ecoc jobs) plan.job (done docs current ecoc)) wrong
            ∙ (λ i. record { state = state_with docs current (sym rows_is i) ecoc (sym after_is i); reply = r.TokenMismatch field; opened = fields_of plan.run.rows });
      };
    }
