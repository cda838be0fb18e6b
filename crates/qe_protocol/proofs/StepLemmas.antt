-- What a step leaves, whether it met a mismatch or none.
use Rattle.std.proofs.Common.{◌≡◌, ℕ, ◌-◌, List, [], ◌∷◌, ◌++◌, length, true, Option, None, Some, refl, sym, ap, ◌∙◌, subst, inl, inr}
use Rattle.std.proofs.lemmas.Bool.{cases_Bool, cond_both, cond-true, cond-false, eq-eqb, MatchBool-at_true}
use Rattle.std.proofs.lemmas.List.{map-append}
use Rattle.std.specs.List.{list_any}
use Rattle.std.specs.Prelude.{◌==◌, nat_le}
use Rattle.qe_base.specs.declared.maintenance.Count.{Count}
use Rattle.qe_base.specs.declared.maintenance.JobKind.{JobKind}
use Rattle.qe_base.specs.declared.maintenance.JobKind.TheVariants.{Compact, Cleanup}
use Rattle.qe_tokens.specs.declared.words.FieldToken.{FieldToken}
use Rattle.qe_ecoc.specs.declared.rows.Entry.{Entry}
use Rattle.qe_command.specs.declared.command.Command.{Command}
use Rattle.qe_command.specs.declared.command.Command.TheVariants as c
use Rattle.qe_protocol.specs.declared.reply.Reply.{Reply}
use Rattle.qe_protocol.specs.declared.reply.Reply.TheVariants as r
use Rattle.qe_protocol.specs.State.{Job, State, Done, left_of, answered}
use Rattle.qe_protocol.specs.Contention.{refusal, current_of}
use Rattle.qe_protocol.specs.Documents.{has_document}
use Rattle.qe_protocol.specs.Filters.{matches}
use Rattle.qe_protocol.specs.Jobs.{begin_with, begin_beside, first_missing, will_be_aside, on_job, AllowedOn, work_of, with_work, with_leaves, stepped, step_done, step_units, end_running}
use Rattle.qe_protocol.specs.Next.{served, unless_refused, next, sets_for}
use Rattle.qe_protocol.specs.Units.{Work, UnitsDone, units, unit_then, stopped, with_opened, is_mismatch, row_done, doomed_done, captured_done, AllowedUnits}
use Rattle.qe_protocol.specs.UnitLaws.{opened_before, IsFirst, work_left}
use Rattle.qe_protocol.specs.Laws.{IsParkedAt, RunsOn, then_step, StepsJoin, StepsOn}
use Rattle.qe_protocol.proofs.RefusalLemmas.{IsOther, refusal-other}
use Rattle.qe_protocol.proofs.UnitLemmas.{one_and_more, mismatch_stays, rows_go_first, compacts_all}

-- rows are handled in order
module _ (tokens : List FieldToken) where
  row_rest : (kind : JobKind) (nonce : List ℕ) (work : Work) (row : Entry) (rest : List Entry) (count : Count)
      → (row_done kind tokens nonce work row rest count).aside ≡ rest
  row_rest Compact nonce work row rest count = refl
  row_rest Cleanup nonce work row rest count = refl

  abbrev Drops : List Entry → UnitsDone → Type 0
  Drops rows done = (handled : List Entry) × (rows ≡ handled ++ done.work.aside)

  drops_by : (kind : JobKind) (nonce : List ℕ) (nonces : List (List ℕ)) (rows : List Entry) (doomed captured : List (List ℕ)) (work : Work) (counts : List Count)
      → work.aside ≡ rows → ((after : Work) (left : List Count) → Drops after.aside (units kind tokens nonces after left))
      → Drops rows (unit_then (units kind tokens nonces) kind tokens nonce rows doomed captured work counts)
  drops_by kind nonce nonces (row ∷ rest) doomed captured work [] is more = ([], sym is)
  drops_by kind nonce nonces (row ∷ rest) doomed captured work (count ∷ counts) is more =
      let after = row_done kind tokens nonce work row rest count in
      let later = more after counts in
      cond_both (is_mismatch work.rows count) (stopped work (Some row.field) (row ∷ []) counts) (with_opened row (units kind tokens nonces after counts)) (Drops (row ∷ rest))
      (λ _. ([], sym is))
      (λ _. (row ∷ later.0, ap (λ (rows : List Entry). row ∷ rows) (sym (row_rest kind nonce work row rest count) ∙ later.1)))
  drops_by kind nonce nonces [] (id ∷ rest) captured work counts is more =
      let later = more (doomed_done work id rest) counts in (later.0, sym is ∙ later.1)
  drops_by kind nonce nonces [] [] (id ∷ rest) work counts is more =
      let later = more (captured_done work id rest) counts in (later.0, sym is ∙ later.1)
  drops_by kind nonce nonces [] [] [] work counts is more = ([], sym is)

  rows_drop : (kind : JobKind) (nonces : List (List ℕ)) (work : Work) (counts : List Count) → Drops work.aside (units kind tokens nonces work counts)
  rows_drop kind [] work counts = ([], refl)
  rows_drop kind (nonce ∷ nonces) work counts =
      drops_by kind nonce nonces work.aside work.doomed work.captured work counts refl (λ after left. rows_drop kind nonces after left)

-- what the two answers of a step say, and no other
abbrev IsAnswered : State → Reply → State → Type 0
IsAnswered before (r.Stepped left) after = (left ≡ left_of after.jobs) × RunsOn before.jobs.job after.jobs.job
IsAnswered before (r.TokenMismatch field) after = IsParkedAt before after field
IsAnswered before _ after = Unit {0}

module _ (state : State) where
  abbrev Answered : Done → Type 0
  Answered done = IsAnswered state done.reply done.state

  begin_with-answered : (kind : JobKind) (tokens : List FieldToken) (missing : Option ℕ) → Answered (begin_with kind tokens state missing)
  begin_with-answered kind tokens (Some field) = tt
  begin_with-answered kind tokens None = tt

  begin_beside-answered : (kind : JobKind) (tokens : List FieldToken) (job : Option Job) → Answered (begin_beside kind tokens state job)
  begin_beside-answered kind tokens (Some job) = tt
  begin_beside-answered kind tokens None = begin_with-answered kind tokens (first_missing tokens (will_be_aside state))

  on_job-answered : (asked : ℕ) (job : Option Job) (go : Job → Done) → ((running : Job) → job ≡ Some running → Answered (go running))
      → Answered (on_job state asked job go)
  on_job-answered asked None go each = tt
  on_job-answered asked (Some job) go each = cond_both (job.number == asked) _ _ Answered (λ _. each job refl) (λ _. tt)

  step_done-answered : (job : Job) → state.jobs.job ≡ Some job → (nonces : List (List ℕ)) (counts : List Count) (mismatch : Option ℕ)
      → (step_units state job nonces counts).mismatch ≡ mismatch → Answered (step_done state job (step_units state job nonces counts) mismatch)
  step_done-answered job running nonces counts (Some field) is =
      let work = work_of state job in
      let first : IsFirst field (step_units state job nonces counts).work.aside = mismatch_stays job.kind job.tokens nonces work counts field is in
      let dropped = rows_drop job.tokens job.kind nonces work counts in
      let waits = rows_go_first job.kind job.tokens nonces work counts (λ none. subst (IsFirst field) none first) in
      record {
        docs = refl;
        ecoc = refl;
        current = refl;
        last = refl;
        job = refl;
        handled = dropped.0;
        aside = dropped.1;
        first = first;
        captured = waits.captured;
        more = waits.more;
        doomed = waits.doomed;
      }
  step_done-answered job running nonces counts None is =
      let after = with_leaves job (step_units state job nonces counts).work.leaves in
      (refl, subst (λ before. RunsOn before (Some after)) (sym running) (record { number = refl; kind = refl; tokens = refl }))

  end_running-answered : (job : Job) → Answered (end_running state job)
  end_running-answered job = cond_both (left_of state.jobs == 0) _ _ Answered (λ _. tt) (λ _. tt)

  served-answered : (command : Command) (nonces : List (List ℕ)) (counts : List Count) → Answered (served state command nonces counts)
  served-answered (c.Insert id cells) nonces counts = cond_both (has_document id state.docs) _ _ Answered (λ _. tt) (λ _. tt)
  served-answered (c.Find terms ids) nonces counts = cond_both ids _ _ (λ reply. IsAnswered state reply state) (λ _. tt) (λ _. tt)
  served-answered (c.Update terms set) nonces counts =
      cond_both (list_any (matches (sets_for state terms counts)) state.docs) _ _ Answered (λ _. tt) (λ _. tt)
  served-answered (c.Delete terms) nonces counts =
      cond_both (list_any (matches (sets_for state terms counts)) state.docs) _ _ Answered (λ _. tt) (λ _. tt)
  served-answered (c.Begin kind tokens) nonces counts = begin_beside-answered kind tokens state.jobs.job
  served-answered (c.Step job limit) nonces counts =
      on_job-answered job state.jobs.job _ (λ running is. step_done-answered running is nonces counts (step_units state running nonces counts).mismatch refl)
  served-answered (c.End job) nonces counts = on_job-answered job state.jobs.job _ (λ running _. end_running-answered running)
  served-answered (c.Abandon job) nonces counts = on_job-answered job state.jobs.job _ (λ running _. tt)
  served-answered (c.Raise field contention) nonces counts =
      cond_both (nat_le contention (current_of state.current field)) _ _ Answered (λ _. tt) (λ _. tt)

  unless_refused-answered : (refused : Option Reply) (done : Done) → IsOther (λ reply. IsAnswered state reply state) refused → Answered done
      → Answered (unless_refused state refused done)
  unless_refused-answered None done other is = is
  unless_refused-answered (Some reply) done other is = other

next-answered : (state : State) (command : Command) (nonces : List (List ℕ)) (counts : List Count)
    → IsAnswered state (next state command nonces counts).reply (next state command nonces counts).state
next-answered state command nonces counts =
    unless_refused-answered state (refusal state.current command) (served state command nonces counts)
    (refusal-other (λ reply. IsAnswered state reply state) (λ _ _ _. tt) (λ _ _ _. tt) state.current command)
    (served-answered state command nonces counts)

pub next-parks : (state : State) (command : Command) (nonces : List (List ℕ)) (counts : List Count) (field : ℕ)
    → (next state command nonces counts).reply ≡ r.TokenMismatch field → IsParkedAt state (next state command nonces counts).state field
next-parks state command nonces counts field is =
    subst (λ reply. IsAnswered state reply (next state command nonces counts).state) is (next-answered state command nonces counts)

pub next-left : (state : State) (command : Command) (nonces : List (List ℕ)) (counts : List Count) (left : ℕ)
    → (next state command nonces counts).reply ≡ r.Stepped left
    → (left ≡ left_of (next state command nonces counts).state.jobs) × RunsOn state.jobs.job (next state command nonces counts).state.jobs.job
next-left state command nonces counts left is =
    subst (λ reply. IsAnswered state reply (next state command nonces counts).state) is (next-answered state command nonces counts)

-- a step of a compaction
compacts : (kind : JobKind) → kind ≡ Compact → (tokens : List FieldToken) (nonces : List (List ℕ)) (work : Work) (counts : List Count)
    → AllowedUnits kind tokens nonces work counts → (units kind tokens nonces work counts).mismatch ≡ None
    → work_left (units kind tokens nonces work counts).work ≡ work_left work - length nonces
compacts Compact same tokens nonces work counts allowed none = compacts_all tokens nonces work counts allowed none
compacts Cleanup other tokens nonces work counts allowed none = absurd (cc)

module _ (state : State) (job : Job) (compact : job.kind ≡ Compact) (left : ℕ) (nonces : List (List ℕ)) (counts : List Count) where
  step_done-on : AllowedUnits job.kind job.tokens nonces (work_of state job) counts → (mismatch : Option ℕ)
      → (step_units state job nonces counts).mismatch ≡ mismatch
      → (step_done state job (step_units state job nonces counts) mismatch).reply ≡ r.Stepped left → left ≡ left_of state.jobs - length nonces
  step_done-on allowed (Some field) is other = absurd (cc)
  step_done-on allowed None is stepped =
      let said : work_left (step_units state job nonces counts).work ≡ left = cc in
      sym said ∙ compacts job.kind compact job.tokens nonces (work_of state job) counts allowed is

  on_job-on : (running : Option Job) → running ≡ Some job
      → AllowedOn job.number running counts (λ one. AllowedUnits one.kind one.tokens nonces (work_of state one) counts)
      → (on_job state job.number running (λ one. let done = step_units state one nonces counts in step_done state one done done.mismatch)).reply ≡ r.Stepped left
      → left ≡ left_of state.jobs - length nonces
  on_job-on running is allowed answer =
      let go : Job → Done = λ one. let done = step_units state one nonces counts in step_done state one done done.mismatch in
      let due : Job → Type 0 = λ one. AllowedUnits one.kind one.tokens nonces (work_of state one) counts in
      let same : job.number == job.number ≡ true = eq-eqb job.number job.number refl in
      let asked : AllowedOn job.number (Some job) counts due = subst (λ one. AllowedOn job.number one counts due) is allowed in
      let taken : on_job state job.number running go ≡ go job =
      ap (λ one. on_job state job.number one go) is ∙ cond-true (job.number == job.number) (go job) (answered state (r.NoJob job.number job.number)) same in
      step_done-on (MatchBool-at_true (due job) (counts ≡ []) same asked) (step_units state job nonces counts).mismatch refl
      (sym (ap (λ (done : Done). done.reply) taken) ∙ answer)

pub steps_on : StepsOn
steps_on state job limit left nonces counts running compact allowed answer =
    on_job-on state job compact left nonces counts state.jobs.job running allowed answer

-- a step of limit 1, and then one of the others
abbrev stepped_by : State → Job → List (List ℕ) → List Count → Done
stepped_by state job nonces counts = let done = step_units state job nonces counts in step_done state job done done.mismatch

module _ (state : State) (job : Job) (nonce : List ℕ) (nonces : List (List ℕ)) (counts more : List Count) where
  abbrev one_done : UnitsDone
  one_done = step_units state job (nonce ∷ []) counts

  -- the state between them, and the job as it runs on
  abbrev between : State
  between = with_work state one_done.work (Some (with_leaves job one_done.work.leaves))

  abbrev running_on : Job
  running_on = with_leaves job one_done.work.leaves

  abbrev First : Done
  First = stepped between (r.Stepped (left_of between.jobs)) one_done

  first_is : (mismatch : Option ℕ) (left : ℕ) → (step_done state job one_done mismatch).reply ≡ r.Stepped left → (mismatch ≡ None) × (step_done state job one_done mismatch ≡ First)
  first_is None left is = (refl, refl)
  first_is (Some field) left is = absurd (cc)

  both_open : (done : UnitsDone) (mismatch : Option ℕ)
      → step_done state job (opened_before one_done.opened done) mismatch ≡ then_step First (step_done between running_on done mismatch)
  both_open done (Some field) =
      ap (λ (opened : List ℕ). record { state = with_work state done.work None; reply = r.TokenMismatch field; opened = opened })
      (map-append (λ (row : Entry). row.field) one_done.opened done.opened)
  both_open done None =
      let after = with_work state done.work (Some (with_leaves job done.work.leaves)) in
      ap (λ (opened : List ℕ). record { state = after; reply = r.Stepped (left_of after.jobs); opened = opened })
      (map-append (λ (row : Entry). row.field) one_done.opened done.opened)

  joined : (left : ℕ) → AllowedUnits job.kind job.tokens (nonce ∷ []) (work_of state job) counts → (stepped_by state job (nonce ∷ []) counts).reply ≡ r.Stepped left
      → (stepped_by state job (nonce ∷ []) counts ≡ First)
      × (stepped_by state job (nonce ∷ nonces) (counts ++ more) ≡ then_step First (stepped_by between running_on nonces more))
  joined left allowed is =
      let first = first_is one_done.mismatch left is in
      let done = units job.kind job.tokens nonces one_done.work more in
      let whole : step_units state job (nonce ∷ nonces) (counts ++ more) ≡ opened_before one_done.opened done =
      one_and_more job.kind job.tokens nonce nonces (work_of state job) counts more allowed first.0 in
      (first.1, ap (λ (d : UnitsDone). step_done state job d d.mismatch) whole ∙ both_open done done.mismatch)

pub steps_join : StepsJoin
steps_join state job left nonce nonces counts more allowed answer = by_job state.jobs.job allowed answer
  where
    by_job : (running : Option Job) → AllowedOn job running counts (λ one. AllowedUnits one.kind one.tokens (nonce ∷ []) (work_of state one) counts)
        → (on_job state job running (λ one. stepped_by state one (nonce ∷ []) counts)).reply ≡ r.Stepped left
        → on_job state job running (λ one. stepped_by state one (nonce ∷ nonces) (counts ++ more))
        ≡ then_step (on_job state job running (λ one. stepped_by state one (nonce ∷ []) counts))
        (next (on_job state job running (λ one. stepped_by state one (nonce ∷ []) counts)).state (c.Step job (length nonces)) nonces more)
    by_job None allowed answer = absurd (cc)
    by_job (Some one) allowed answer =
        let asks : (Job → Done) → Done = λ go. on_job state job (Some one) go in
        let first_go : Job → Done = λ it. stepped_by state it (nonce ∷ []) counts in
        let all_go : Job → Done = λ it. stepped_by state it (nonce ∷ nonces) (counts ++ more) in
        let refused : Done = answered state (r.NoJob job one.number) in
        elim (cases_Bool (one.number == job)) [
          | inl hit ↦
              let first : asks first_go ≡ first_go one = cond-true (one.number == job) (first_go one) refused hit in
              let all : asks all_go ≡ all_go one = cond-true (one.number == job) (all_go one) refused hit in
              let due = MatchBool-at_true (AllowedUnits one.kind one.tokens (nonce ∷ []) (work_of state one) counts) (counts ≡ []) hit allowed in
              let both = joined state one nonce nonces counts more left due (sym (ap (λ (d : Done). d.reply) first) ∙ answer) in
              let middle = between state one nonce nonces counts more in
              let runs = running_on state one nonce nonces counts more in
              let second : next middle (c.Step job (length nonces)) nonces more ≡ stepped_by middle runs nonces more =
              cond-true (one.number == job) (stepped_by middle runs nonces more) (answered middle (r.NoJob job one.number)) hit in
              let is_first = first ∙ both.0 in
              all ∙ both.1
              ∙ ap (then_step (First state one nonce nonces counts more)) (sym second)
              ∙ ap (λ (d : Done). then_step d (next d.state (c.Step job (length nonces)) nonces more)) (sym is_first)
          | inr miss ↦
              let other : asks first_go ≡ refused = cond-false (one.number == job) (first_go one) refused miss in
              let said : r.NoJob job one.number ≡ r.Stepped left = sym (ap (λ (d : Done). d.reply) other) ∙ answer in
              absurd (cc)
        ]
