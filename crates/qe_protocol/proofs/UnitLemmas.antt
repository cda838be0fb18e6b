-- Units one after another.
use Rattle.std.proofs.Common.{◌≡◌, ℕ, suc, ◌-◌, List, [], ◌∷◌, ◌++◌, length, true, false, None, Some, refl, sym, ap, ◌∙◌, subst, arith, if◌then◌else◌, inl, inr}
use Rattle.std.proofs.lemmas.Bool.{cases_Bool, cond_both, cond-true, cond-false, MatchBool-at_true, MatchBool-at_false}
use Rattle.std.proofs.lemmas.List.{append-nil, append_assoc}
use Rattle.qe_base.specs.declared.maintenance.Count.{Count}
use Rattle.qe_base.specs.declared.maintenance.JobKind.{JobKind}
use Rattle.qe_base.specs.declared.maintenance.JobKind.TheVariants.{Compact, Cleanup}
use Rattle.qe_tokens.specs.declared.words.FieldToken.{FieldToken}
use Rattle.qe_ecoc.specs.declared.rows.Entry.{Entry}
use Rattle.qe_esc.specs.Pairs.{null_pair}
use Rattle.qe_protocol.specs.Units.{Work, UnitsDone, units, unit_then, stopped, with_opened, is_mismatch, row_done, doomed_done, captured_done, AllowedUnits, AllowedUnit, anchors_after}
use Rattle.qe_protocol.specs.UnitLaws.{opened_before, IsFirst, TakesFirst, UnitsTake, work_left, WaitsForRows}

-- by what is first: a row that doesn't mismatch, one that does, a doomed identifier, a captured one, or nothing
module _ (kind : JobKind) (tokens : List FieldToken) where
  -- where nothing is left, or no count is, a step does nothing
  idle : (nonces : List (List ℕ)) (work : Work) → work.aside ≡ [] → work.doomed ≡ [] → work.captured ≡ [] → (counts : List Count)
      → units kind tokens nonces work counts ≡ stopped work None [] counts
  idle [] work no_row no_doomed no_captured counts = refl
  idle (nonce ∷ nonces) work no_row no_doomed no_captured counts =
      λ i. unit_then (units kind tokens nonces) kind tokens nonce (no_row i) (no_doomed i) (no_captured i) work counts

  uncounted : (nonces : List (List ℕ)) (work : Work) (row : Entry) (rest : List Entry) → work.aside ≡ row ∷ rest
      → units kind tokens nonces work [] ≡ stopped work None [] []
  uncounted [] work row rest is = refl
  uncounted (nonce ∷ nonces) work row rest is = λ i. unit_then (units kind tokens nonces) kind tokens nonce (is i) work.doomed work.captured work []

  -- one unit, and then the others
  module _ (nonce : List ℕ) (nonces : List (List ℕ)) where
    abbrev All : List Entry → List (List ℕ) → List (List ℕ) → Work → List Count → UnitsDone
    All rows doomed captured work counts = unit_then (units kind tokens nonces) kind tokens nonce rows doomed captured work counts

    abbrev One : List Entry → List (List ℕ) → List (List ℕ) → Work → List Count → UnitsDone
    One rows doomed captured work counts = unit_then (units kind tokens []) kind tokens nonce rows doomed captured work counts

    abbrev Splits : UnitsDone → UnitsDone → Type 0
    Splits all one = one.mismatch ≡ None → all ≡ opened_before one.opened (units kind tokens nonces one.work one.rest)

    split_by : (rows : List Entry) (doomed captured : List (List ℕ)) (work : Work) (counts : List Count)
        → work.aside ≡ rows → work.doomed ≡ doomed → work.captured ≡ captured
        → Splits (All rows doomed captured work counts) (One rows doomed captured work counts)
    split_by (row ∷ rest) doomed captured work [] is d x none = sym (uncounted nonces work row rest is)
    split_by (row ∷ rest) doomed captured work (count ∷ counts) is d x none =
        (elim (is_mismatch work.rows count) as (λ b.
        (if b then stopped work (Some row.field) (row ∷ []) counts else with_opened row (units kind tokens [] (row_done kind tokens nonce work row rest count) counts)).mismatch ≡ None
        → (if b then stopped work (Some row.field) (row ∷ []) counts else with_opened row (units kind tokens nonces (row_done kind tokens nonce work row rest count) counts))
        ≡ opened_before (if b then stopped work (Some row.field) (row ∷ []) counts else with_opened row (units kind tokens [] (row_done kind tokens nonce work row rest count) counts)).opened
        (units kind tokens nonces (if b then stopped work (Some row.field) (row ∷ []) counts else with_opened row (units kind tokens [] (row_done kind tokens nonce work row rest count) counts)).work
        (if b then stopped work (Some row.field) (row ∷ []) counts else with_opened row (units kind tokens [] (row_done kind tokens nonce work row rest count) counts)).rest)) [
          | true ↦ λ (other : Some row.field ≡ None). absurd (cc)
          | false ↦ λ _. refl
        ]) none
    split_by [] (id ∷ rest) captured work counts is d x none = refl
    split_by [] [] (id ∷ rest) work counts is d x none = refl
    split_by [] [] [] work counts is d x none = sym (idle nonces work is d x counts)

pub goes_on : (kind : JobKind) (tokens : List FieldToken) (nonce : List ℕ) (nonces : List (List ℕ)) (work : Work) (counts : List Count)
    → (units kind tokens (nonce ∷ []) work counts).mismatch ≡ None
    → units kind tokens (nonce ∷ nonces) work counts
    ≡ opened_before (units kind tokens (nonce ∷ []) work counts).opened
    (units kind tokens nonces (units kind tokens (nonce ∷ []) work counts).work (units kind tokens (nonce ∷ []) work counts).rest)
goes_on kind tokens nonce nonces work counts none =
    split_by kind tokens nonce nonces work.aside work.doomed work.captured work counts refl refl refl none

module _ (kind : JobKind) (tokens : List FieldToken) where
  -- the row of a mismatch stays
  abbrev Stays : UnitsDone → Type 0
  Stays done = (field : ℕ) → done.mismatch ≡ Some field → IsFirst field done.work.aside

  stays_by : (nonce : List ℕ) (nonces : List (List ℕ)) (rows : List Entry) (doomed captured : List (List ℕ)) (work : Work) (counts : List Count) → work.aside ≡ rows
      → ((after : Work) (left : List Count) → Stays (units kind tokens nonces after left))
      → Stays (unit_then (units kind tokens nonces) kind tokens nonce rows doomed captured work counts)
  stays_by nonce nonces (row ∷ rest) doomed captured work [] is more = λ field none. absurd (cc)
  stays_by nonce nonces (row ∷ rest) doomed captured work (count ∷ counts) is more =
      cond_both (is_mismatch work.rows count) (stopped work (Some row.field) (row ∷ []) counts)
      (with_opened row (units kind tokens nonces (row_done kind tokens nonce work row rest count) counts)) Stays
      (λ _ field same. let of_row : row.field ≡ field = cc in subst (IsFirst field) (sym is) of_row)
      (λ _. more (row_done kind tokens nonce work row rest count) counts)
  stays_by nonce nonces [] (id ∷ rest) captured work counts is more = more (doomed_done work id rest) counts
  stays_by nonce nonces [] [] (id ∷ rest) work counts is more = more (captured_done work id rest) counts
  stays_by nonce nonces [] [] [] work counts is more = λ field none. absurd (cc)

  pub mismatch_stays : (nonces : List (List ℕ)) (work : Work) (counts : List Count) → Stays (units kind tokens nonces work counts)
  mismatch_stays [] work counts = λ field none. absurd (cc)
  mismatch_stays (nonce ∷ nonces) work counts =
      stays_by nonce nonces work.aside work.doomed work.captured work counts refl (λ after left. mismatch_stays nonces after left)

  -- a count for each row that was opened
  counts_by : (nonce : List ℕ) (nonces : List (List ℕ)) (rows : List Entry) (doomed captured : List (List ℕ)) (work : Work) (counts : List Count)
      → ((after : Work) (left : List Count) → AllowedUnits kind tokens nonces after left → length left ≡ length (units kind tokens nonces after left).opened)
      → AllowedUnit (AllowedUnits kind tokens nonces) kind tokens nonce rows doomed captured work counts
      → length counts ≡ length (unit_then (units kind tokens nonces) kind tokens nonce rows doomed captured work counts).opened
  counts_by nonce nonces (row ∷ rest) doomed captured work [] more allowed = absurd allowed
  counts_by nonce nonces (row ∷ rest) doomed captured work (count ∷ counts) more allowed =
      let after = row_done kind tokens nonce work row rest count in
      cond_both (is_mismatch work.rows count) (stopped work (Some row.field) (row ∷ []) counts) (with_opened row (units kind tokens nonces after counts))
      (λ done. length (count ∷ counts) ≡ length done.opened)
      (λ yes. ap (λ (left : List Count). suc (length left)) (MatchBool-at_true (counts ≡ []) (AllowedUnits kind tokens nonces after counts) yes allowed.1))
      (λ no. ap suc (more after counts (MatchBool-at_false (counts ≡ []) (AllowedUnits kind tokens nonces after counts) no allowed.1)))
  counts_by nonce nonces [] (id ∷ rest) captured work counts more allowed = more (doomed_done work id rest) counts allowed
  counts_by nonce nonces [] [] (id ∷ rest) work counts more allowed = more (captured_done work id rest) counts allowed
  counts_by nonce nonces [] [] [] work counts more allowed = ap length allowed

  pub counts_opened : (nonces : List (List ℕ)) (work : Work) (counts : List Count) → AllowedUnits kind tokens nonces work counts
      → length counts ≡ length (units kind tokens nonces work counts).opened
  counts_opened [] work counts allowed = ap length allowed
  counts_opened (nonce ∷ nonces) work counts allowed =
      counts_by nonce nonces work.aside work.doomed work.captured work counts (λ after left is. counts_opened nonces after left is) allowed

  -- rows go first
  empty_by : (nonce : List ℕ) (nonces : List (List ℕ)) (rows : List Entry) (doomed captured : List (List ℕ)) (work : Work) (counts : List Count) → work.aside ≡ rows → rows ≡ []
      → ((after : Work) (left : List Count) → after.aside ≡ [] → (units kind tokens nonces after left).work.aside ≡ [])
      → (unit_then (units kind tokens nonces) kind tokens nonce rows doomed captured work counts).work.aside ≡ []
  empty_by nonce nonces (row ∷ rest) doomed captured work counts is none more = absurd (cc)
  empty_by nonce nonces [] (id ∷ rest) captured work counts is none more = more (doomed_done work id rest) counts is
  empty_by nonce nonces [] [] (id ∷ rest) work counts is none more = more (captured_done work id rest) counts is
  empty_by nonce nonces [] [] [] work counts is none more = is

  stays_empty : (nonces : List (List ℕ)) (work : Work) (counts : List Count) → work.aside ≡ [] → (units kind tokens nonces work counts).work.aside ≡ []
  stays_empty [] work counts none = none
  stays_empty (nonce ∷ nonces) work counts none =
      empty_by nonce nonces work.aside work.doomed work.captured work counts refl none (λ after left is. stays_empty nonces after left is)

  abbrev Waits : Work → UnitsDone → Type 0
  Waits work done = (done.work.aside ≡ [] → ⊥) → WaitsForRows work done.work

  waits_same : (work : Work) → WaitsForRows work work
  waits_same work = record { captured = refl; more = []; doomed = sym (append-nil work.doomed) }

  waits_by : (nonce : List ℕ) (nonces : List (List ℕ)) (rows : List Entry) (doomed captured : List (List ℕ)) (work : Work) (counts : List Count) → work.aside ≡ rows
      → ((after : Work) (left : List Count) → Waits after (units kind tokens nonces after left))
      → ((after : Work) (row : Entry) (rest : List Entry) (count : Count) → WaitsForRows (row_done kind tokens nonce work row rest count) after → WaitsForRows work after)
      → Waits work (unit_then (units kind tokens nonces) kind tokens nonce rows doomed captured work counts)
  waits_by nonce nonces (row ∷ rest) doomed captured work [] is more onward = λ _. waits_same work
  waits_by nonce nonces (row ∷ rest) doomed captured work (count ∷ counts) is more onward =
      let after = row_done kind tokens nonce work row rest count in
      cond_both (is_mismatch work.rows count) (stopped work (Some row.field) (row ∷ []) counts) (with_opened row (units kind tokens nonces after counts)) (Waits work)
      (λ _ _. waits_same work) (λ _ some. onward _ row rest count (more after counts some))
  waits_by nonce nonces [] (id ∷ rest) captured work counts is more onward = λ some. absurd (some (stays_empty nonces (doomed_done work id rest) counts is))
  waits_by nonce nonces [] [] (id ∷ rest) work counts is more onward = λ some. absurd (some (stays_empty nonces (captured_done work id rest) counts is))
  waits_by nonce nonces [] [] [] work counts is more onward = λ _. waits_same work

-- a row's unit leaves what is captured, and dooms behind what is doomed
row_waits : (kind : JobKind) (tokens : List FieldToken) (nonce : List ℕ) (work after : Work) (row : Entry) (rest : List Entry) (count : Count)
    → WaitsForRows (row_done kind tokens nonce work row rest count) after → WaitsForRows work after
row_waits Compact tokens nonce work after row rest count waits = record { captured = waits.captured; more = waits.more; doomed = waits.doomed }
row_waits Cleanup tokens nonce work after row rest count waits = record {
  captured = waits.captured;
  more = anchors_after count.token (null_pair work.rows count.token).0 count.hop ++ waits.more;
  doomed = waits.doomed ∙ append_assoc work.doomed (anchors_after count.token (null_pair work.rows count.token).0 count.hop) waits.more;
}

pub rows_go_first : (kind : JobKind) (tokens : List FieldToken) (nonces : List (List ℕ)) (work : Work) (counts : List Count)
    → Waits kind tokens work (units kind tokens nonces work counts)
rows_go_first kind tokens [] work counts = λ _. waits_same kind tokens work
rows_go_first kind tokens (nonce ∷ nonces) work counts =
    waits_by kind tokens nonce nonces work.aside work.doomed work.captured work counts refl (λ after left. rows_go_first kind tokens nonces after left)
    (λ after row rest count. row_waits kind tokens nonce work after row rest count)

-- a compaction's units
module _ (tokens : List FieldToken) where
  abbrev Goal : List (List ℕ) → Work → UnitsDone → Type 0
  Goal nonces work done = done.mismatch ≡ None → work_left done.work ≡ work_left work - length nonces

  done_by : (nonce : List ℕ) (nonces : List (List ℕ)) (rows : List Entry) (doomed captured : List (List ℕ)) (work : Work) (counts : List Count)
      → work.aside ≡ rows → work.doomed ≡ doomed → work.captured ≡ captured
      → ((after : Work) (left : List Count) → AllowedUnits Compact tokens nonces after left → Goal nonces after (units Compact tokens nonces after left))
      → AllowedUnit (AllowedUnits Compact tokens nonces) Compact tokens nonce rows doomed captured work counts
      → Goal (nonce ∷ nonces) work (unit_then (units Compact tokens nonces) Compact tokens nonce rows doomed captured work counts)
  done_by nonce nonces (row ∷ rest) doomed captured work [] is d x more allowed none = absurd allowed
  done_by nonce nonces (row ∷ rest) doomed captured work (count ∷ counts) is d x more allowed none =
      let after = row_done Compact tokens nonce work row rest count in
      let size : length work.aside ≡ suc (length rest) = ap length is in
      cond_both (is_mismatch work.rows count) (stopped work (Some row.field) (row ∷ []) counts) (with_opened row (units Compact tokens nonces after counts)) (Goal (nonce ∷ nonces) work)
      (λ _ (other : Some row.field ≡ None). absurd (cc))
      (λ no (is_none : (units Compact tokens nonces after counts).mismatch ≡ None).
      let onward : work_left (units Compact tokens nonces after counts).work ≡ work_left after - length nonces =
      more after counts (MatchBool-at_false (counts ≡ []) (AllowedUnits Compact tokens nonces after counts) no allowed.1) is_none in
      omega (arith, onward, size)) none
  done_by nonce nonces [] (id ∷ rest) captured work counts is d x more allowed none =
      let size : length work.doomed ≡ suc (length rest) = ap length d in
      let onward : work_left (units Compact tokens nonces (doomed_done work id rest) counts).work ≡ work_left (doomed_done work id rest) - length nonces =
      more (doomed_done work id rest) counts allowed none in
      omega (arith, onward, size)
  done_by nonce nonces [] [] (id ∷ rest) work counts is d x more allowed none =
      let size : length work.captured ≡ suc (length rest) = ap length x in
      let onward : work_left (units Compact tokens nonces (captured_done work id rest) counts).work ≡ work_left (captured_done work id rest) - length nonces =
      more (captured_done work id rest) counts allowed none in
      omega (arith, onward, size)
  done_by nonce nonces [] [] [] work counts is d x more allowed none =
      let one : length work.aside ≡ 0 = ap length is in
      let two : length work.doomed ≡ 0 = ap length d in
      let three : length work.captured ≡ 0 = ap length x in
      omega (arith, one, two, three)

  pub compacts_all : (nonces : List (List ℕ)) (work : Work) (counts : List Count) → AllowedUnits Compact tokens nonces work counts
      → (units Compact tokens nonces work counts).mismatch ≡ None
      → work_left (units Compact tokens nonces work counts).work ≡ work_left work - length nonces
  compacts_all [] work counts allowed none = omega arith
  compacts_all (nonce ∷ nonces) work counts allowed none =
      done_by nonce nonces work.aside work.doomed work.captured work counts refl refl refl (λ after left is. compacts_all nonces after left is) allowed none

-- what is first
row_takes : (kind : JobKind) (tokens : List FieldToken) (nonce : List ℕ) (work : Work) (row : Entry) (rest : List Entry) (doomed captured : List (List ℕ)) (count : Count)
    → work.doomed ≡ doomed → work.captured ≡ captured → TakesFirst work (row ∷ rest) doomed captured (row_done kind tokens nonce work row rest count)
row_takes Compact tokens nonce work row rest doomed captured count d x = (refl, (([], d ∙ sym (append-nil doomed)), x))
row_takes Cleanup tokens nonce work row rest doomed captured count d x =
    let more = anchors_after count.token (null_pair work.rows count.token).0 count.hop in
    (refl, ((more, ap (λ (ids : List (List ℕ)). ids ++ more) d), x))

module _ (kind : JobKind) (tokens : List FieldToken) (nonce : List ℕ) where
  takes_by : (rows : List Entry) (doomed captured : List (List ℕ)) (work : Work) (counts : List Count) → work.aside ≡ rows → work.doomed ≡ doomed → work.captured ≡ captured
      → AllowedUnit (AllowedUnits kind tokens []) kind tokens nonce rows doomed captured work counts
      → (unit_then (units kind tokens []) kind tokens nonce rows doomed captured work counts).mismatch ≡ None
      → TakesFirst work rows doomed captured (unit_then (units kind tokens []) kind tokens nonce rows doomed captured work counts).work
  takes_by (row ∷ rest) doomed captured work [] is d x allowed none = absurd allowed
  takes_by (row ∷ rest) doomed captured work (count ∷ counts) is d x allowed none =
      cond_both (is_mismatch work.rows count) (stopped work (Some row.field) (row ∷ []) counts)
      (with_opened row (stopped (row_done kind tokens nonce work row rest count) None [] counts))
      (λ done. done.mismatch ≡ None → TakesFirst work (row ∷ rest) doomed captured done.work)
      (λ _ (other : Some row.field ≡ None). absurd (cc)) (λ _ _. row_takes kind tokens nonce work row rest doomed captured count d x) none
  takes_by [] (id ∷ rest) captured work counts is d x allowed none = (record { rows = refl; aside = refl; leaves = refl }, (refl, x))
  takes_by [] [] (id ∷ rest) work counts is d x allowed none = (record { rows = refl; aside = refl; leaves = refl }, (d, refl))
  takes_by [] [] [] work counts is d x allowed none = refl

pub units_take : UnitsTake
units_take kind tokens nonce work counts allowed none =
    takes_by kind tokens nonce work.aside work.doomed work.captured work counts refl refl refl allowed none

-- a unit with its own counts, and then the others with theirs
module _ (kind : JobKind) (tokens : List FieldToken) (nonce : List ℕ) (nonces : List (List ℕ)) (more : List Count) where
  abbrev Alone : List Entry → List (List ℕ) → List (List ℕ) → Work → List Count → UnitsDone
  Alone rows doomed captured work counts = unit_then (units kind tokens []) kind tokens nonce rows doomed captured work counts

  abbrev Onward : UnitsDone → UnitsDone
  Onward one = opened_before one.opened (units kind tokens nonces one.work more)

  onward_by : (rows : List Entry) (doomed captured : List (List ℕ)) (work : Work) (counts : List Count) → work.aside ≡ rows → work.doomed ≡ doomed → work.captured ≡ captured
      → AllowedUnit (AllowedUnits kind tokens []) kind tokens nonce rows doomed captured work counts → (Alone rows doomed captured work counts).mismatch ≡ None
      → unit_then (units kind tokens nonces) kind tokens nonce rows doomed captured work (counts ++ more) ≡ Onward (Alone rows doomed captured work counts)
  onward_by (row ∷ rest) doomed captured work [] is d x allowed none = absurd allowed
  onward_by (row ∷ rest) doomed captured work (count ∷ counts) is d x allowed none =
      let after = row_done kind tokens nonce work row rest count in
      let bad : UnitsDone = stopped work (Some row.field) (row ∷ []) counts in
      let good : UnitsDone = with_opened row (stopped after None [] counts) in
      elim (cases_Bool (is_mismatch work.rows count)) [
        | inl hit ↦
            let one : Alone (row ∷ rest) doomed captured work (count ∷ counts) ≡ bad = cond-true (is_mismatch work.rows count) bad good hit in
            let wrong : Some row.field ≡ None = sym (ap (λ (done : UnitsDone). done.mismatch) one) ∙ none in
            absurd (cc)
        | inr miss ↦
            let one : Alone (row ∷ rest) doomed captured work (count ∷ counts) ≡ good = cond-false (is_mismatch work.rows count) bad good miss in
            let all = cond-false (is_mismatch work.rows count) (stopped work (Some row.field) (row ∷ []) (counts ++ more)) (with_opened row (units kind tokens nonces after (counts ++ more))) miss in
            let spent : counts ≡ [] = MatchBool-at_false (counts ≡ []) (AllowedUnits kind tokens [] after counts) miss allowed.1 in
            all ∙ ap (λ (left : List Count). with_opened row (units kind tokens nonces after (left ++ more))) spent ∙ ap Onward (sym one)
      ]
  onward_by [] (id ∷ rest) captured work counts is d x allowed none = ap (λ (left : List Count). units kind tokens nonces (doomed_done work id rest) (left ++ more)) allowed
  onward_by [] [] (id ∷ rest) work counts is d x allowed none = ap (λ (left : List Count). units kind tokens nonces (captured_done work id rest) (left ++ more)) allowed
  onward_by [] [] [] work counts is d x allowed none = ap (λ (left : List Count). stopped work None [] (left ++ more)) allowed ∙ sym (idle kind tokens nonces work is d x more)

pub one_and_more : (kind : JobKind) (tokens : List FieldToken) (nonce : List ℕ) (nonces : List (List ℕ)) (work : Work) (counts more : List Count)
    → AllowedUnits kind tokens (nonce ∷ []) work counts → (units kind tokens (nonce ∷ []) work counts).mismatch ≡ None
    → units kind tokens (nonce ∷ nonces) work (counts ++ more)
    ≡ opened_before (units kind tokens (nonce ∷ []) work counts).opened (units kind tokens nonces (units kind tokens (nonce ∷ []) work counts).work more)
one_and_more kind tokens nonce nonces work counts more allowed none =
    onward_by kind tokens nonce nonces more work.aside work.doomed work.captured work counts refl refl refl allowed none
