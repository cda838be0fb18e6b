-- Maintenance and raises: the relation stands after each, and the reply is what the outcome tells.
use Rattle.std.proofs.Common.{◌≡◌, ℕ, ◌<◌, ◌≤◌, zero, suc, List, [], ◌∷◌, Option, None, Some, refl, sym, ap, ◌∙◌, subst, arith}
use Rattle.std.proofs.lemmas.Bool.{cond_both, leb-false, cond-true, eq-eqb}
use Rattle.std.specs.Prelude.{◌==◌, nat_le, slice_index, slice_set}
use Rattle.std.specs.List.{AllByRecursion}
use Rattle.qe_base.specs.declared.maintenance.Count.{Count}
use Rattle.qe_base.specs.declared.maintenance.JobKind.{JobKind}
use Rattle.qe_tokens.specs.declared.words.FieldToken.{FieldToken}
use Rattle.qe_plain.specs.declared.command.PlainDocument.{PlainDocument}
use Rattle.qe_protocol.specs.declared.reply.Reply.TheVariants as r
use Rattle.qe_protocol.specs.State.{Job, State, Done, answered, left_of}
use Rattle.qe_protocol.specs.Contention.{current_of, raise, with_current}
use Rattle.qe_protocol.specs.Jobs.{begin_job, begin_beside, begin_with, first_missing, will_be_aside, on_job, step_job, step_units, step_done, AllowedStep, end_job, end_running, without_job, abandon_job}
use Rattle.qe_protocol.specs.Laws.{AreLong}
use Rattle.qe_protocol.specs.Next.{outcome_of}
use Rattle.qe_protocol.specs.Units.{UnitsDone}
use Rattle.qe_protocol.proofs.KeptLemmas.{AreKept, begin-keeps, step-keeps, end-keeps, abandon-keeps}
use Rattle.qe_labels.specs.Laws.{IsFree}
use Rattle.qe_labels.specs.Numbers.{Numbers, StraysAreZero, all_learned}
use Rattle.qe_labels.specs.Under.{Under, root_of}
use Rattle.qe_relation.specs.Stands.{AllLimited, StateStands}
use Rattle.qe_relation.specs.Steps.{IsOpenedKnown}
use Rattle.qe_relation.proofs.JobKeepLemmas.{begin_stands, step_stands, end_stands, abandon_stands}
use Rattle.qe_encodes.specs.Counted.{opened_by, strays_of}
use Rattle.qe_encodes.specs.Fields.{IsUnder}
use Rattle.qe_encodes.specs.Replies.{Answers, told}
use Rattle.qe_standing.specs.Standing.{StandDocuments}
use Rattle.qe_standing.specs.Stands.{Acted, Stands}
use Rattle.qe_standing.proofs.ActLemmas.{learned_stand}
use Rattle.qe_standing.proofs.NumberLemmas.{all_known}
use Rattle.qe_laws.proofs.StrayLemmas.{opened_known, strays_all_learned}

-- a number that is put in is nowhere less than what was there
pub set_grows : (xs : List ℕ) (i x j : ℕ) → slice_index xs i ≤ x → slice_index xs j ≤ slice_index (slice_set xs i x) j
set_grows [] i x j more = omega arith
set_grows (y ∷ ys) zero x zero more = more
set_grows (y ∷ ys) zero x (suc j) more = omega arith
set_grows (y ∷ ys) (suc i) x zero more = omega arith
set_grows (y ∷ ys) (suc i) x (suc j) more = set_grows ys i x j more

module _ (u : Under) (is : IsUnder u) (state : State) (documents : List PlainDocument) where
  abbrev Told : Done → Type 0
  Told done = Answers u done.reply (told (outcome_of done.reply))

  stands_kept : (numbers : Numbers) → Stands u numbers state documents → (after : State) → AreKept state after → StateStands (root_of u) numbers after → Stands u numbers after documents
  stands_kept numbers stands after kept index = record {
    index = index;
    docs = subst (λ docs. StandDocuments u numbers docs documents) (sym kept.docs) stands.docs;
    limited = subst (λ current. AllLimited current numbers) (sym kept.current) stands.limited;
  }

  begin_told : (kind : JobKind) (tokens : List FieldToken) (job : Option Job) → Told (begin_beside kind tokens state job)
  begin_told kind tokens (Some job) = refl
  begin_told kind tokens None = with_told (first_missing tokens (will_be_aside state))
    where
      with_told : (missing : Option ℕ) → Told (begin_with kind tokens state missing)
      with_told (Some field) = refl
      with_told None = refl

  on_told : (asked : ℕ) (go : Job → Done) → ((job : Job) → Told (go job)) → (job : Option Job) → Told (on_job state asked job go)
  on_told asked go tells None = refl
  on_told asked go tells (Some job) = cond_both (job.number == asked) (go job) (answered state (r.NoJob asked job.number)) Told (λ _. tells job) (λ _. refl)

  step_told : (job : Job) (done : UnitsDone) (mismatch : Option ℕ) → Told (step_done state job done mismatch)
  step_told job done (Some field) = refl
  step_told job done None = refl

  module _ (numbers : Numbers) (stands : Stands u numbers state documents) where
    pub begin_acted : (kind : JobKind) (tokens : List FieldToken)
        → Acted u numbers (begin_job kind tokens state) documents (told (outcome_of (begin_job kind tokens state).reply))
    begin_acted kind tokens = record {
      stands = stands_kept numbers stands (begin_job kind tokens state).state (begin-keeps state kind tokens) (begin_stands (root_of u) numbers state stands.index kind tokens);
      answers = begin_told kind tokens state.jobs.job;
    }

    pub end_acted : (asked : ℕ) → Acted u numbers (end_job state asked) documents (told (outcome_of (end_job state asked).reply))
    end_acted asked = record {
      stands = stands_kept numbers stands (end_job state asked).state (end-keeps state asked) (end_stands (root_of u) numbers state stands.index asked);
      answers = on_told asked (end_running state)
          (λ job. cond_both (left_of state.jobs == 0) (answered (without_job state) (r.Ended job.leaves)) (answered state (r.NotDone (left_of state.jobs))) Told (λ _. refl) (λ _. refl))
          state.jobs.job;
    }

    pub abandon_acted : (asked : ℕ) → Acted u numbers (abandon_job state asked) documents (told (outcome_of (abandon_job state asked).reply))
    abandon_acted asked = record {
      stands = stands_kept numbers stands (abandon_job state asked).state (abandon-keeps state asked) (abandon_stands (root_of u) numbers state stands.index asked);
      answers = on_told asked (λ job. answered (without_job state) r.Abandoned) (λ job. refl) state.jobs.job;
    }

    pub raise_acted : (field asked : ℕ) → Acted u numbers (raise state field asked) documents (told (outcome_of (raise state field asked).reply))
    raise_acted field asked =
        let current = current_of state.current field in
        cond_both (nat_le asked current) (answered state (r.NotRaised asked current)) (answered (with_current state (slice_set state.current field asked)) (r.Raised asked))
        (λ done. Acted u numbers done documents (told (outcome_of done.reply)))
        (λ _. record { stands = stands; answers = refl })
        (λ above.
        let more : current < asked = leb-false asked current above in
        record {
          stands = record {
            index = stands.index;
            docs = stands.docs;
            limited = record {
              at = λ one factor n item known some.
                  let grown : slice_index state.current one ≤ slice_index (slice_set state.current field asked) one = set_grows state.current field asked one (omega arith) in
                  omega (arith, stands.limited.at one factor n item known some);
            };
          };
          answers = refl;
        })

    -- a step's strays become known first
    pub step_acted : StraysAreZero numbers → (asked : ℕ) (nonces : List (List ℕ)) → AreLong nonces → (counts : List Count) → AllowedStep state asked nonces counts
        → let opened = opened_by state asked nonces counts state.jobs.job in
        IsFree (root_of u) (all_learned numbers (strays_of u opened.0 opened.1))
        → Acted u (all_learned numbers (strays_of u opened.0 opened.1)) (step_job state asked nonces counts) documents (told (outcome_of (step_job state asked nonces counts).reply))
    step_acted strays asked nonces long counts allowed free =
        let opened = opened_by state asked nonces counts state.jobs.job in
        let words = strays_of u opened.0 opened.1 in
        let last = all_learned numbers words in
        let first : Stands u last state documents = learned_stand u is state documents numbers words free stands in
        let known : AllByRecursion (IsOpenedKnown (root_of u) last opened.0) opened.1 =
        opened_known u last (strays_all_learned words numbers strays) opened.0 opened.1 (all_known words numbers) in
        let running = λ (job : Job) (runs : state.jobs.job ≡ Some job) (same : job.number ≡ asked).
        let pair = ap (opened_by state asked nonces counts) runs ∙ cond-true (job.number == asked) (job.tokens, (step_units state job nonces counts).opened) ([], []) (eq-eqb job.number asked same) in
        subst (λ p. AllByRecursion (IsOpenedKnown (root_of u) last p.0) p.1) pair known in
        record {
          stands = stands_kept last first (step_job state asked nonces counts).state (step-keeps state asked nonces counts)
              (step_stands (root_of u) last state first.index free asked nonces long counts running allowed);
          answers = on_told asked (λ job. step_done state job (step_units state job nonces counts) (step_units state job nonces counts).mismatch)
              (λ job. step_told job (step_units state job nonces counts) (step_units state job nonces counts).mismatch) state.jobs.job;
        }
