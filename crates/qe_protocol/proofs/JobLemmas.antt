-- Jobs: what a begin, an end and an abandon leave as it was.
use Rattle.std.proofs.Common.{Less, Bool, ◌≡◌, ℕ, ◌+◌, List, [], ◌∷◌, true, Option, None, Some, refl, ap, sym, ◌∙◌, ◌||◌, inl, inr, subst}
use Rattle.std.proofs.lemmas.Bool.{cond_both, cond-true, cond-false, or_cases, or_left, or_right, false≢true}
use Rattle.std.proofs.lemmas.Slice.Eq.{bytes_eq-Decides}
use Rattle.std.specs.FinMap.{get, keys, entries, entries_sorted, contains_key, contains_key-keys}
use Rattle.std.specs.List.{list_any, filter, AllByRecursion}
use Rattle.std.specs.List.Sorted.{IsStrictlySortedBy}
use Rattle.std.specs.Cmp.Lexicographic.{slice_cmp, texts_ties}
use Rattle.std.specs.Ordering.{nat_cmp, eq_by_cmp}
use Rattle.qe_esc.specs.Rows.{Row, Rows, is_position, position_ids}
use Rattle.qe_esc.proofs.RisingLemmas.{both_parts, below_keys}
use Rattle.std.specs.FinMap.Entries.{is_sorted}
use Rattle.std.specs.Prelude.{◌==◌, bytes_eq, is_some, map, T}
use Rattle.qe_base.specs.declared.maintenance.JobKind.{JobKind}
use Rattle.qe_tokens.specs.declared.words.FieldToken.{FieldToken}
use Rattle.qe_protocol.specs.declared.reply.Reply.TheVariants as r
use Rattle.qe_protocol.specs.State.{Job, State, Done, left_of, answered}
use Rattle.qe_protocol.specs.Jobs.{next_job, begun, fresh, resumed, is_parked, begin_with, begin_beside, begin_job, first_missing, will_be_aside, on_job, without_job, end_running}
use Rattle.qe_protocol.specs.Laws.{LeavesLists, LeavesAll, HasLeaves, StopsAlone, EndsAlone, IsStarted, StartsAsSent, FreshTakesAll}

lists_stay : (state : State) → LeavesLists state state
lists_stay state = record { rows = refl; ecoc = refl; aside = refl; captured = refl; doomed = refl }

all_stays : (state : State) → LeavesAll state state
all_stays state = record { docs = refl; lists = lists_stay state; last = refl; current = refl }

module _ (kind : JobKind) (tokens : List FieldToken) (state : State) (parked : is_parked state.jobs ≡ true) where
  begin_with-resumes : (missing : Option ℕ) → LeavesLists state (begin_with kind tokens state missing).state
  begin_with-resumes (Some field) = lists_stay state
  begin_with-resumes None =
      let taken : begun kind tokens state ≡ resumed kind tokens state = cond-true (is_parked state.jobs) (resumed kind tokens state) (fresh kind tokens state) parked in
      record {
        rows = ap (λ (s : State). s.index.rows) taken;
        ecoc = ap (λ (s : State). s.index.ecoc) taken;
        aside = ap (λ (s : State). s.jobs.aside) taken;
        captured = ap (λ (s : State). s.jobs.captured) taken;
        doomed = ap (λ (s : State). s.jobs.doomed) taken;
      }

  begin_beside-resumes : (job : Option Job) → LeavesLists state (begin_beside kind tokens state job).state
  begin_beside-resumes (Some job) = lists_stay state
  begin_beside-resumes None = begin_with-resumes (first_missing tokens (will_be_aside state))

pub resumes_parked : (kind : JobKind) (tokens : List FieldToken) (state : State) → is_parked state.jobs ≡ true
    → LeavesLists state (begin_job kind tokens state).state
resumes_parked kind tokens state parked = begin_beside-resumes kind tokens state parked state.jobs.job

-- a job that begins
begun_job : (kind : JobKind) (tokens : List FieldToken) (state : State) → (begun kind tokens state).jobs.job ≡ Some (next_job kind tokens state.jobs)
begun_job kind tokens state =
    cond_both (is_parked state.jobs) (resumed kind tokens state) (fresh kind tokens state) (λ (s : State). s.jobs.job ≡ Some (next_job kind tokens state.jobs))
    (λ _. refl) (λ _. refl)

module _ (kind : JobKind) (tokens : List FieldToken) (state : State) where
  abbrev Started : Done → Type 0
  Started done = IsStarted kind tokens state.jobs.last done.reply done.state.jobs.job

  begin_with-started : (missing : Option ℕ) → Started (begin_with kind tokens state missing)
  begin_with-started (Some field) = tt
  begin_with-started None = begun_job kind tokens state

  begin_beside-started : (job : Option Job) → Started (begin_beside kind tokens state job)
  begin_beside-started (Some job) = tt
  begin_beside-started None = begin_with-started (first_missing tokens (will_be_aside state))

pub starts_as_sent : StartsAsSent
starts_as_sent state kind tokens nonces counts = begin_beside-started kind tokens state state.jobs.job

-- an end and an abandon
module _ (state : State) where
  abbrev Alone : Done → Type 0
  Alone done = StopsAlone state done

  without-alone : LeavesAll state (without_job state)
  without-alone = record { docs = refl; lists = record { rows = refl; ecoc = refl; aside = refl; captured = refl; doomed = refl }; last = refl; current = refl }

  on_job-alone : (asked : ℕ) (job : Option Job) (go : Job → Done) → ((running : Job) → job ≡ Some running → Alone (go running)) → Alone (on_job state asked job go)
  on_job-alone asked None go each = (all_stays state, tt)
  on_job-alone asked (Some job) go each = cond_both (job.number == asked) _ _ Alone (λ _. each job refl) (λ _. (all_stays state, tt))

  end_running-alone : (job : Job) → state.jobs.job ≡ Some job → Alone (end_running state job)
  end_running-alone job running =
      cond_both (left_of state.jobs == 0) _ _ Alone
      (λ _. (without-alone, (subst (HasLeaves job.leaves) (sym running) refl, refl))) (λ _. (all_stays state, tt))

pub ends_alone : EndsAlone
ends_alone state job nonces counts =
    (on_job-alone state job state.jobs.job _ (end_running-alone state), on_job-alone state job state.jobs.job _ (λ running is. (without-alone state, refl)))

-- a begin where nothing is parked
any_filter : (test : List ℕ → Bool) (id : List ℕ) (ids : List (List ℕ)) → list_any (bytes_eq id) ids ≡ true → test id ≡ true
    → list_any (bytes_eq id) (filter test ids) ≡ true
any_filter test id [] some holds = absurd (false≢true some)
any_filter test id (first ∷ ids) some holds =
    elim (or_cases (bytes_eq id first) (list_any (bytes_eq id) ids) some) [
      | inl here ↦
          let same : id ≡ first = (bytes_eq-Decides id first).0 here in
          let kept = cond-true (test first) (first ∷ filter test ids) (filter test ids) (ap test (sym same) ∙ holds) in
          ap (list_any (bytes_eq id)) kept ∙ or_left (bytes_eq id first) (list_any (bytes_eq id) (filter test ids)) here
      | inr behind ↦
          let rest = any_filter test id ids behind holds in
          cond_both (test first) (first ∷ filter test ids) (filter test ids) (λ all. list_any (bytes_eq id) all ≡ true)
          (λ _. or_right (bytes_eq id first) (list_any (bytes_eq id) (filter test ids)) rest) (λ _. rest)
    ]

filter_any : (test : List ℕ → Bool) (id : List ℕ) (ids : List (List ℕ)) → list_any (bytes_eq id) (filter test ids) ≡ true → test id ≡ true
filter_any test id [] some = absurd (false≢true some)
filter_any test id (first ∷ ids) some =
    cond_both (test first) (first ∷ filter test ids) (filter test ids) (λ all. list_any (bytes_eq id) all ≡ true → test id ≡ true)
    (λ holds there. elim (or_cases (bytes_eq id first) (list_any (bytes_eq id) (filter test ids)) there) [
      | inl here ↦ ap test ((bytes_eq-Decides id first).0 here) ∙ holds
      | inr behind ↦ filter_any test id ids behind
    ])
    (λ _ behind. filter_any test id ids behind) some

any_alike : (id : List ℕ) (ids : List (List ℕ)) → list_any (eq_by_cmp (slice_cmp nat_cmp) id) ids ≡ list_any (bytes_eq id) ids
any_alike id [] = refl
any_alike id (first ∷ ids) = λ i. sym (texts_ties id first) i || any_alike id ids i

captures : (rows : Rows) (id : List ℕ) → get rows id ≡ Some None → list_any (bytes_eq id) (position_ids rows) ≡ true
captures rows id is =
    let there : contains_key rows id ≡ true = ap is_some is in
    any_filter (λ other. is_position (get rows other)) id (keys rows)
    (sym (any_alike id (keys rows)) ∙ sym (contains_key-keys rows id) ∙ there) (ap is_position is)

position_row : (row : Option Row) → is_position row ≡ true → row ≡ Some None
position_row None not = absurd (false≢true not)
position_row (Some None) is = refl
position_row (Some (Some value)) not = absurd (false≢true not)

-- their order
sorted_keys : (es : List (List ℕ × Row)) → T (is_sorted (slice_cmp nat_cmp) es) → IsStrictlySortedBy (slice_cmp nat_cmp) (map (λ (e : List ℕ × Row). e.0) es)
unfolding IsStrictlySortedBy
sorted_keys [] is = tt
sorted_keys (e ∷ es) is = (below_keys (slice_cmp nat_cmp) e.0 es (both_parts _ _ is).0, sorted_keys es (both_parts _ _ is).1)

all_filter : (P : List ℕ → Type 0) (test : List ℕ → Bool) (ids : List (List ℕ)) → AllByRecursion P ids → AllByRecursion P (filter test ids)
all_filter P test [] each = tt
all_filter P test (id ∷ ids) each =
    cond_both (test id) (id ∷ filter test ids) (filter test ids) (AllByRecursion P)
    (λ _. (each.0, all_filter P test ids each.1)) (λ _. all_filter P test ids each.1)

sorted_filter : (test : List ℕ → Bool) (ids : List (List ℕ)) → IsStrictlySortedBy (slice_cmp nat_cmp) ids → IsStrictlySortedBy (slice_cmp nat_cmp) (filter test ids)
unfolding IsStrictlySortedBy
sorted_filter test [] rising = tt
sorted_filter test (id ∷ ids) rising =
    cond_both (test id) (id ∷ filter test ids) (filter test ids) (IsStrictlySortedBy (slice_cmp nat_cmp))
    (λ _. (all_filter (λ other. slice_cmp nat_cmp id other ≡ Less) test ids rising.0, sorted_filter test ids rising.1)) (λ _. sorted_filter test ids rising.1)

positions_rise : (rows : Rows) → IsStrictlySortedBy (slice_cmp nat_cmp) (position_ids rows)
positions_rise rows = sorted_filter (λ id. is_position (get rows id)) (keys rows) (sorted_keys (entries rows) (entries_sorted rows))

pub fresh_takes_all : FreshTakesAll
fresh_takes_all kind tokens state idle none all =
    let would = cond-false (is_parked state.jobs) state.jobs.aside state.index.ecoc idle in
    let begins : begin_job kind tokens state ≡ answered (begun kind tokens state) (r.Begun (state.jobs.last + 1)) =
    ap (begin_beside kind tokens state) none ∙ ap (λ rows. begin_with kind tokens state (first_missing tokens rows)) would ∙ ap (begin_with kind tokens state) all in
    let taken = cond-false (is_parked state.jobs) (resumed kind tokens state) (fresh kind tokens state) idle in
    let is : (begin_job kind tokens state).state ≡ fresh kind tokens state = ap (λ (d : Done). d.state) begins ∙ taken in
    record {
      aside = ap (λ (s : State). s.jobs.aside) is;
      ecoc = ap (λ (s : State). s.index.ecoc) is;
      captured = λ id there. ap (λ (s : State). list_any (bytes_eq id) s.jobs.captured) is ∙ captures state.index.rows id there;
      nothing_else = λ id there.
          let some : list_any (bytes_eq id) (position_ids state.index.rows) ≡ true = sym (ap (λ (s : State). list_any (bytes_eq id) s.jobs.captured) is) ∙ there in
          position_row (get state.index.rows id) (filter_any (λ other. is_position (get state.index.rows other)) id (keys state.index.rows) some);
      rising = subst (IsStrictlySortedBy (slice_cmp nat_cmp)) (sym (ap (λ (s : State). s.jobs.captured) is)) (positions_rise state.index.rows);
      doomed = ap (λ (s : State). s.jobs.doomed) is;
      rows = ap (λ (s : State). s.index.rows) is;
      docs = ap (λ (s : State). s.docs) is;
      current = ap (λ (s : State). s.current) is;
      job = ap (λ (s : State). s.jobs.job) is;
    }
