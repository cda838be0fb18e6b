-- The relation is kept where jobs begin, step, end and are abandoned.
use Rattle.std.proofs.Common.{◌≡◌, ℕ, ◌<◌, ◌≤◌, ◌==◌, Bool, true, false, List, [], ◌∷◌, length, Option, None, Some, refl, subst, arith, inl, inr, ⊎_elim}
use Rattle.std.proofs.lemmas.Bool.{cond_both, eqb-true, MatchBool-at_true, cases_lt}
use Rattle.std.specs.Prelude.{not}
use Rattle.std.specs.List.{AllByRecursion}
use Rattle.std.specs.FinMap.{get, keys}
use Rattle.qe_base.specs.declared.maintenance.Count.{Count}
use Rattle.qe_base.specs.declared.maintenance.JobKind.{JobKind}
use Rattle.qe_tokens.specs.Labels.{row_token}
use Rattle.qe_tokens.specs.declared.words.FieldToken.{FieldToken}
use Rattle.qe_esc.specs.Rows.{Row, is_position}
use Rattle.qe_protocol.specs.State.{Job, State, Done, left_of, answered}
use Rattle.qe_protocol.specs.Laws.{AreLong}
use Rattle.qe_protocol.specs.Jobs.{begin_job, begin_beside, begin_with, begun, resumed, fresh, is_parked, first_missing, will_be_aside, on_job, AllowedOn, step_job, step_units, step_done, AllowedStep, work_of, without_job, end_job, end_running, abandon_job}
use Rattle.qe_protocol.specs.Units.{UnitsDone, AllowedUnits}
use Rattle.qe_protocol.specs.declared.reply.Reply.TheVariants as r
use Rattle.qe_labels.specs.Numbers.{Numbers}
use Rattle.qe_labels.specs.Laws.{IsFree}
use Rattle.qe_relation.specs.Shape.{shape}
use Rattle.qe_relation.specs.Stands.{HasRow, IsPosition, IsCaptured, StateStands, WorkStands}
use Rattle.qe_relation.specs.Steps.{IsOpenedKnown}
use Rattle.qe_relation.proofs.PlaceLemmas.{each_kept}
use Rattle.qe_relation.proofs.StepKeepLemmas.{units_kept, IsKept}

no_items : {A : Type 0} (xs : List A) → length xs ≡ 0 → xs ≡ []
no_items [] none = refl
no_items (x ∷ xs) none = absurd (omega arith)

bare : (o : Option Row) → is_position o ≡ true → o ≡ Some None
bare None is = cc
bare (Some None) is = refl
bare (Some (Some value)) is = cc

module _ (root : ℕ → List ℕ) (numbers : Numbers) where
  -- ---- begin
  module _ (state : State) (stand : StateStands root numbers state) where
    -- each position is counted, or a row aside will count it
    capture : (id : List ℕ) → is_position (get state.index.rows id) ≡ true → state.jobs.aside ≡ [] → IsCaptured root numbers state.index.rows state.index.ecoc id
    capture id is none =
        let p : IsPosition root numbers id = stand.rows_stand.named id None (bare (get state.index.rows id) is) in
        record {
          position = p;
          covered = ⊎_elim
              (λ (behind : (shape state.index.rows (row_token root p.word) p.n).base < p.i). inr (⊎_elim
              (λ (row : HasRow root p.word state.index.ecoc). row)
              (λ (row : HasRow root p.word state.jobs.aside). let gone : HasRow root p.word [] = subst (HasRow root p.word) none row in absurd gone)
              (stand.covered p.word p.n p.known (omega (arith, behind, p.high)))))
              (λ (within : p.i ≤ (shape state.index.rows (row_token root p.word) p.n).base). inl within)
              (cases_lt (shape state.index.rows (row_token root p.word) p.n).base p.i);
        }

    fresh_stands : (kind : JobKind) (tokens : List FieldToken) → is_parked state.jobs ≡ false → StateStands root numbers (fresh kind tokens state)
    fresh_stands kind tokens none =
        let left : left_of state.jobs ≡ 0 = eqb-true (left_of state.jobs) 0 (not_out (left_of state.jobs == 0) none) in
        let no_aside : state.jobs.aside ≡ [] = no_items state.jobs.aside (omega arith) in
        record {
          rows_stand = stand.rows_stand;
          ecoc_known = tt;
          aside_known = stand.ecoc_known;
          covered = λ word n known less. inr (⊎_elim (λ (row : HasRow root word state.index.ecoc). row)
              (λ (row : HasRow root word state.jobs.aside). let gone : HasRow root word [] = subst (HasRow root word) no_aside row in absurd gone)
              (stand.covered word n known less));
          are_captured = each_kept (IsCaptured root numbers state.index.rows state.index.ecoc) (λ id. is_position (get state.index.rows id))
              (λ id is. capture id is no_aside) (keys state.index.rows);
          are_doomed = stand.are_doomed;
        }
      where
        not_out : (b : Bool) → not b ≡ false → b ≡ true
        not_out true is = refl
        not_out false is = cc

    begun_stands : (kind : JobKind) (tokens : List FieldToken) → StateStands root numbers (begun kind tokens state)
    begun_stands kind tokens =
        cond_both (is_parked state.jobs) (resumed kind tokens state) (fresh kind tokens state) (StateStands root numbers) (λ _. stand) (fresh_stands kind tokens)

    begin_with_stands : (kind : JobKind) (tokens : List FieldToken) (missing : Option ℕ) → StateStands root numbers (begin_with kind tokens state missing).state
    begin_with_stands kind tokens (Some field) = stand
    begin_with_stands kind tokens None = begun_stands kind tokens

    beside_stands : (kind : JobKind) (tokens : List FieldToken) (job : Option Job) → StateStands root numbers (begin_beside kind tokens state job).state
    beside_stands kind tokens (Some job) = stand
    beside_stands kind tokens None = begin_with_stands kind tokens (first_missing tokens (will_be_aside state))

    pub begin_stands : (kind : JobKind) (tokens : List FieldToken) → StateStands root numbers (begin_job kind tokens state).state
    begin_stands kind tokens = beside_stands kind tokens state.jobs.job

    -- ---- end and abandon
    on_stands : (asked : ℕ) (job : Option Job) (go : Job → Done) → ((one : Job) → StateStands root numbers (go one).state) → StateStands root numbers (on_job state asked job go).state
    on_stands asked None go stands = stand
    on_stands asked (Some job) go stands =
        cond_both (job.number == asked) (go job) (answered state (r.NoJob asked job.number)) (λ done. StateStands root numbers done.state) (λ _. stands job) (λ _. stand)

    pub end_stands : (asked : ℕ) → StateStands root numbers (end_job state asked).state
    end_stands asked = on_stands asked state.jobs.job (end_running state)
        (λ job. cond_both (left_of state.jobs == 0) (answered (without_job state) (r.Ended job.leaves)) (answered state (r.NotDone (left_of state.jobs)))
        (λ done. StateStands root numbers done.state) (λ _. stand) (λ _. stand))

    pub abandon_stands : (asked : ℕ) → StateStands root numbers (abandon_job state asked).state
    abandon_stands asked = on_stands asked state.jobs.job (λ job. answered (without_job state) r.Abandoned) (λ job. stand)

    -- ---- step
    module _ (free : IsFree root numbers) (asked : ℕ) (nonces : List (List ℕ)) (long : AreLong nonces) (counts : List Count) where
      done_stands : (job : Job) (done : UnitsDone) (mismatch : Option ℕ) → WorkStands root numbers state.index.ecoc done.work → StateStands root numbers (step_done state job done mismatch).state
      done_stands job done (Some field) work = work
      done_stands job done None work = work

      pub running_kept : (job : Job) → AllowedUnits job.kind job.tokens nonces (work_of state job) counts
          → AllByRecursion (IsOpenedKnown root numbers job.tokens) (step_units state job nonces counts).opened
          → IsKept root numbers free state.index.ecoc job.kind job.tokens (step_units state job nonces counts)
      running_kept job allowed known = units_kept root numbers free state.index.ecoc job.kind job.tokens nonces long (work_of state job) counts stand allowed known

      -- each row that the job opens has its field's token, or gives a known stray word
      module _ (known : (job : Job) → state.jobs.job ≡ Some job → job.number ≡ asked → AllByRecursion (IsOpenedKnown root numbers job.tokens) (step_units state job nonces counts).opened) where
        step_by : (running : Option Job) → state.jobs.job ≡ running → AllowedOn asked running counts (λ job. AllowedUnits job.kind job.tokens nonces (work_of state job) counts)
            → StateStands root numbers (on_job state asked running (λ job. let done = step_units state job nonces counts in step_done state job done done.mismatch)).state
        step_by None is allowed = stand
        step_by (Some job) is allowed =
            let done = step_units state job nonces counts in
            cond_both (job.number == asked) (step_done state job done done.mismatch) (answered state (r.NoJob asked job.number)) (λ one. StateStands root numbers one.state)
            (λ yes_one. done_stands job done done.mismatch (running_kept job
            (MatchBool-at_true (AllowedUnits job.kind job.tokens nonces (work_of state job) counts) (counts ≡ []) yes_one allowed)
            (known job is (eqb-true job.number asked yes_one))).stand)
            (λ _. stand)

        pub step_stands : AllowedStep state asked nonces counts → StateStands root numbers (step_job state asked nonces counts).state
        step_stands allowed = step_by state.jobs.job refl allowed
