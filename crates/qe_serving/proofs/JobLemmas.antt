-- What the calls of maintenance come to, by the definitions of jobs.
use Rattle.std.proofs.Common.{◌≡◌, ℕ, false, cond, List, [], ◌++◌, None, Some, refl, sym, ◌∙◌, ap, subst, ◌==◌}
use Rattle.std.specs.Bool.{MatchBool}
use Rattle.qe_base.specs.declared.maintenance.Count.{Count}
use Rattle.qe_base.specs.declared.maintenance.JobKind.{JobKind}
use Rattle.qe_tokens.specs.declared.words.FieldToken.{FieldToken}
use Rattle.qe_command.specs.declared.command.Command.TheVariants as c
use Rattle.qe_protocol.specs.declared.reply.Reply.{Reply}
use Rattle.qe_protocol.specs.declared.reply.Reply.TheVariants as r
use Rattle.qe_protocol.specs.State.{Job, State, answered}
use Rattle.qe_protocol.specs.Jobs.{on_job, AllowedOn, work_of, step_units, step_done, step_job, AllowedStep, end_job, end_running, abandon_job, without_job}
use Rattle.qe_protocol.specs.Units.{AllowedUnits}
use Rattle.qe_compact.specs.Answers.{Begins, Ends, Abandons, StepsAndNotes}
use Rattle.qe_serving.specs.Serving.{IsServed, IsOff, RunsAsked}

-- NO SUCH JOB

-- no search was made
abbrev IsQuiet : List Count → Type 0
IsQuiet counts = counts ≡ []

-- what a step's counts would have to be
abbrev GoesOn : State → List (List ℕ) → Job → Type 0
GoesOn state nonces job = AllowedUnits job.kind job.tokens nonces (work_of state job) []

pub none_runs : (state : State) (asked : ℕ) → state.jobs.job ≡ None → IsOff state asked (r.NoJob asked 0)
none_runs state asked none = record {
  replied = λ go. ap (λ job. on_job state asked job go) none;
  quiet = λ nonces. subst (λ job. AllowedOn asked job [] (GoesOn state nonces)) (sym none) refl;
}

pub another_runs : (state : State) (asked : ℕ) (job : Job) → state.jobs.job ≡ Some job → (job.number == asked) ≡ false → IsOff state asked (r.NoJob asked job.number)
another_runs state asked job runs other = record {
  replied = λ go.
      ap (λ running. on_job state asked running go) runs ∙ ap (λ b. cond b (go job) (answered state (r.NoJob asked job.number))) other;
  quiet = λ nonces.
      subst (λ running. AllowedOn asked running [] (GoesOn state nonces)) (sym runs)
      (subst (λ b. MatchBool b (GoesOn state nonces job) (IsQuiet [])) (sym other) refl);
}

module _ (state : State) (asked : ℕ) (reply : Reply) (off : IsOff state asked reply) where
  pub step_off : (limit : ℕ) (nonces : List (List ℕ)) → IsServed state state (c.Step asked limit) nonces (record { reply = reply; counts = []; opened = [] })
  step_off limit nonces = record {
    allowed = off.quiet nonces;
    does = off.replied (λ job. let done = step_units state job nonces [] in step_done state job done done.mismatch);
  }

  pub end_off : (nonces : List (List ℕ)) → IsServed state state (c.End asked) nonces (record { reply = reply; counts = []; opened = [] })
  end_off nonces = record { allowed = refl; does = off.replied (end_running state) }

  pub abandon_off : (nonces : List (List ℕ)) → IsServed state state (c.Abandon asked) nonces (record { reply = reply; counts = []; opened = [] })
  abandon_off nonces = record { allowed = refl; does = off.replied (λ job. answered (without_job state) r.Abandoned) }

-- THE JOB RUNS

same_some : {A : Type 0} (x y : A) → Some x ≡ Some y → x ≡ y
same_some x y e = cc

module _ (old new : State) (asked : ℕ) (runs : RunsAsked asked old.jobs.job) where
  asked_is : (job : Job) → old.jobs.job ≡ Some job → job.number ≡ asked
  asked_is job is = ap (λ one. one.number) (same_some job runs.job (sym is ∙ runs.runs)) ∙ runs.number

  pub step_served : (limit : ℕ) (nonces : List (List ℕ)) (start counts : List Count) (none opened : List ℕ) (reply : Reply) → start ≡ [] → none ≡ []
      → new.docs ≡ old.docs → new.current ≡ old.current → new.index.ecoc ≡ old.index.ecoc
      → StepsAndNotes nonces old.index.rows old.jobs new.index.rows new.jobs start counts none opened reply
      → IsServed old new (c.Step asked limit) nonces (record { reply = reply; counts = counts; opened = opened })
  step_served limit nonces start counts none opened reply no_counts no_opened docs current ecoc does =
      let job = does.steps.job in
      let number = asked_is job does.steps.runs in
      let counts_are : counts ≡ does.searched = does.all_counts ∙ ap (λ front. front ++ does.searched) no_counts in
      let opened_are : opened ≡ does.fields = does.all_opened ∙ ap (λ front. front ++ does.fields) no_opened in
      record {
        allowed =
            subst (AllowedStep old asked nonces) (sym counts_are)
            (subst (λ n. AllowedStep old n nonces does.searched) number (does.steps.allowed old.docs old.current old.index.ecoc));
        does =
            ap (step_job old asked nonces) counts_are ∙ ap (λ n. step_job old n nonces does.searched) (sym number)
            ∙ does.steps.does old.docs old.current old.index.ecoc
            ∙ (λ i. record {
              state = record { docs = sym docs i; index = record { rows = new.index.rows; ecoc = sym ecoc i }; jobs = new.jobs; current = sym current i };
              reply = reply;
              opened = sym opened_are i;
            });
      }

  pub end_served : (nonces : List (List ℕ)) (reply : Reply) → new.docs ≡ old.docs → new.current ≡ old.current → new.index ≡ old.index
      → Ends old.jobs new.jobs reply → IsServed old new (c.End asked) nonces (record { reply = reply; counts = []; opened = [] })
  end_served nonces reply docs current index ends = record {
    allowed = refl;
    does =
        ap (end_job old) (sym (asked_is ends.job ends.runs)) ∙ ends.does old.docs old.current old.index.rows old.index.ecoc
        ∙ (λ i. answered (record { docs = sym docs i; index = sym index i; jobs = new.jobs; current = sym current i }) reply);
  }

  pub abandon_served : (nonces : List (List ℕ)) → new.docs ≡ old.docs → new.current ≡ old.current → new.index ≡ old.index
      → Abandons old.jobs new.jobs → IsServed old new (c.Abandon asked) nonces (record { reply = r.Abandoned; counts = []; opened = [] })
  abandon_served nonces docs current index abandons = record {
    allowed = refl;
    does =
        ap (abandon_job old) (sym (asked_is abandons.job abandons.runs)) ∙ abandons.does old.docs old.current old.index.rows old.index.ecoc
        ∙ (λ i. answered (record { docs = sym docs i; index = sym index i; jobs = new.jobs; current = sym current i }) r.Abandoned);
  }

-- BEGIN

pub begin_served : (old new : State) (kind : JobKind) (tokens : List FieldToken) (nonces : List (List ℕ)) (reply : Reply) → new.docs ≡ old.docs → new.current ≡ old.current
    → new.index.rows ≡ old.index.rows → Begins kind tokens old.index.rows old.index.ecoc old.jobs new.index.ecoc new.jobs reply
    → IsServed old new (c.Begin kind tokens) nonces (record { reply = reply; counts = []; opened = [] })
begin_served old new kind tokens nonces reply docs current rows begins = record {
  allowed = refl;
  does =
      begins.does old.docs old.current
      ∙ (λ i. answered (record { docs = sym docs i; index = record { rows = sym rows i; ecoc = new.index.ecoc }; jobs = new.jobs; current = sym current i }) reply);
}
