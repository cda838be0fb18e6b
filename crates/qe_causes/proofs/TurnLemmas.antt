-- One unit and the units behind it: where a step comes to a mismatch.
use Rattle.std.proofs.Common.{◌≡◌, ◌⊎◌, ℕ, Bool, true, false, cond, not, ◌&&◌, List, [], ◌∷◌, ◌++◌, None, Some, refl, sym, ap, ◌∙◌, subst, inl, inr, ◌==◌}
use Rattle.std.proofs.lemmas.Bool.{cases_Bool, and_parts, and_from, eqb-true, eq-eqb}
use Rattle.qe_base.specs.declared.maintenance.Count.{Count}
use Rattle.qe_base.specs.declared.maintenance.JobKind.{JobKind}
use Rattle.qe_tokens.specs.declared.words.FieldToken.{FieldToken}
use Rattle.qe_esc.specs.Rows.{Rows, has}
use Rattle.qe_esc.specs.Identifiers.{id_of}
use Rattle.qe_esc.specs.declared.key.RowKind.TheVariants.{Anchor}
use Rattle.qe_ecoc.specs.declared.rows.Entry.{Entry}
use Rattle.qe_protocol.specs.Units.{Work, UnitsDone, units, unit_then, stopped, with_opened, is_mismatch, row_done, doomed_done, captured_done}
use Rattle.qe_causes.specs.Causes.{Mismatches}
use Rattle.qe_causes.proofs.FirstLemmas.{some_none, none_some, same_some}

-- a test that is false
not_false : (b : Bool) → not b ≡ true → b ≡ false
not_false true e = absurd (no e)
  where
    no : false ≡ true → ⊥
    no e = cc
not_false false e = refl

-- a token without rows
pub record FindsNothing (rows : Rows) (count : Count) : Type 0 where
  pub no_null_anchor : has rows (id_of Anchor count.token 0) ≡ false
  pub no_anchor : count.hop ≡ 0
  pub no_position : count.positions ≡ 0

finds_nothing : (rows : Rows) (count : Count) → is_mismatch rows count ≡ true → FindsNothing rows count
finds_nothing rows count is =
    let parts = and_parts (not (has rows (id_of Anchor count.token 0))) (count.hop == 0 && (count.positions == 0)) is in
    let numbers = and_parts (count.hop == 0) (count.positions == 0) parts.1 in
    record {
      no_null_anchor = not_false (has rows (id_of Anchor count.token 0)) parts.0;
      no_anchor = eqb-true count.hop 0 numbers.0;
      no_position = eqb-true count.positions 0 numbers.1;
    }

is_nothing : (rows : Rows) (count : Count) → FindsNothing rows count → is_mismatch rows count ≡ true
is_nothing rows count finds =
    and_from (not (has rows (id_of Anchor count.token 0))) (count.hop == 0 && (count.positions == 0)) (ap not finds.no_null_anchor)
    (and_from (count.hop == 0) (count.positions == 0) (eq-eqb count.hop 0 finds.no_anchor) (eq-eqb count.positions 0 finds.no_position))

-- what units come to, without the rows that were opened
record IsSame (one other : UnitsDone) : Type 0 where
  mismatch : one.mismatch ≡ other.mismatch
  work : one.work ≡ other.work
  rest : one.rest ≡ other.rest

module _ (kind : JobKind) (tokens : List FieldToken) (nonce : List ℕ) (work : Work) (counts : List Count) where
  abbrev Units : List (List ℕ) → UnitsDone
  Units before = units kind tokens (nonce ∷ before) work counts

  -- the step goes on behind the unit, or is at a mismatch, or is at its end
  record TurnsOn : Type 0 where
    after : Work
    left : List Count
    step : (before : List (List ℕ)) → IsSame (Units before) (units kind tokens before after left)

  record Stops : Type 0 where
    row : Entry
    rows : List Entry
    row_is : work.aside ≡ row ∷ rows
    count : Count
    counts_left : List Count
    count_is : counts ≡ count ∷ counts_left
    nothing : FindsNothing work.rows count

  record IsOver : Type 0 where
    quiet : (before : List (List ℕ)) → (Units before).mismatch ≡ None
    none : (before : List (List ℕ)) (row : Entry) (rows : List Entry) (count : Count) (counts_left : List Count)
        → (Units before).work.aside ≡ row ∷ rows → (Units before).rest ≡ count ∷ counts_left → ⊥

  abbrev Turn : Type 0
  Turn = TurnsOn ⊎ (Stops ⊎ IsOver)

no_items : {A : Type 0} (x : A) (xs : List A) → [] ≡ x ∷ xs → ⊥
no_items x xs e = cc

module _ (kind : JobKind) (tokens : List FieldToken) (nonce : List ℕ) (work : Work) where
  abbrev then_of : List (List ℕ) → List Entry → List (List ℕ) → List (List ℕ) → List Count → UnitsDone
  then_of before rows doomed captured counts = unit_then (units kind tokens before) kind tokens nonce rows doomed captured work counts

  -- the unit, by what is first
  by_lists : (counts : List Count) (rows : List Entry) (doomed captured : List (List ℕ)) → work.aside ≡ rows → work.doomed ≡ doomed → work.captured ≡ captured
      → (before : List (List ℕ)) → units kind tokens (nonce ∷ before) work counts ≡ then_of before rows doomed captured counts
  by_lists counts rows doomed captured a d c before = λ i. then_of before (a i) (d i) (c i) counts

  same_as : (one other : UnitsDone) → one ≡ other → IsSame one other
  same_as one other e = record { mismatch = ap (λ (done : UnitsDone). done.mismatch) e; work = ap (λ (done : UnitsDone). done.work) e; rest = ap (λ (done : UnitsDone). done.rest) e }

  -- the same but for the rows that were opened
  opened_same : (row : Entry) (one other : UnitsDone) → one ≡ with_opened row other → IsSame one other
  opened_same row one other e =
      record { mismatch = ap (λ (done : UnitsDone). done.mismatch) e; work = ap (λ (done : UnitsDone). done.work) e; rest = ap (λ (done : UnitsDone). done.rest) e }

  turn_by : (counts : List Count) (rows : List Entry) (doomed captured : List (List ℕ)) → work.aside ≡ rows → work.doomed ≡ doomed → work.captured ≡ captured
      → Turn kind tokens nonce work counts
  turn_by [] (row ∷ rest) doomed captured a d c =
      let is = by_lists [] (row ∷ rest) doomed captured a d c in
      inr (inr (record {
        quiet = λ before. ap (λ (done : UnitsDone). done.mismatch) (is before);
        none = λ before row rows count left _ there. no_items count left (sym (ap (λ (done : UnitsDone). done.rest) (is before)) ∙ there);
      }))
  turn_by (count ∷ counts) (row ∷ rest) doomed captured a d c =
      let is = by_lists (count ∷ counts) (row ∷ rest) doomed captured a d c in
      let after = row_done kind tokens nonce work row rest count in
      elim (cases_Bool (is_mismatch work.rows count)) [
        | inl t ↦ inr (inl (record { row = row; rows = rest; row_is = a; count = count; counts_left = counts; count_is = refl; nothing = finds_nothing work.rows count t }))
        | inr f ↦ inl (record {
          after = after;
          left = counts;
          step = λ before.
              opened_same row (units kind tokens (nonce ∷ before) work (count ∷ counts)) (units kind tokens before after counts)
              (is before
              ∙ ap (λ b. cond b (stopped work (Some row.field) (row ∷ []) counts) (with_opened row (units kind tokens before after counts))) f);
        })
      ]
  turn_by counts [] (id ∷ rest) captured a d c =
      inl (record {
        after = doomed_done work id rest;
        left = counts;
        step = λ before. same_as _ _ (by_lists counts [] (id ∷ rest) captured a d c before);
      })
  turn_by counts [] [] (id ∷ rest) a d c =
      inl (record {
        after = captured_done work id rest;
        left = counts;
        step = λ before. same_as _ _ (by_lists counts [] [] (id ∷ rest) a d c before);
      })
  turn_by counts [] [] [] a d c =
      let is = by_lists counts [] [] [] a d c in
      inr (inr (record {
        quiet = λ before. ap (λ (done : UnitsDone). done.mismatch) (is before);
        none = λ before row rows count left there _. no_items row rows (sym a ∙ sym (ap (λ (done : UnitsDone). done.work.aside) (is before)) ∙ there);
      }))

  turn : (counts : List Count) → Turn kind tokens nonce work counts
  turn counts = turn_by counts work.aside work.doomed work.captured refl refl refl

module _ (kind : JobKind) (tokens : List FieldToken) (field : ℕ) where
  -- a mismatch there
  stops_so : (nonce : List ℕ) (before : List (List ℕ)) (work : Work) (counts : List Count) (stops : Stops kind tokens nonce work counts)
      → (units kind tokens (nonce ∷ before) work counts).mismatch ≡ Some stops.row.field
  stops_so nonce before work counts stops =
      (λ i. (unit_then (units kind tokens before) kind tokens nonce (stops.row_is i) work.doomed work.captured work (stops.count_is i)).mismatch)
      ∙ ap (λ b. (cond b (stopped work (Some stops.row.field) (stops.row ∷ []) stops.counts_left)
      (with_opened stops.row (units kind tokens before (row_done kind tokens nonce work stops.row stops.rows stops.count) stops.counts_left))).mismatch)
      (is_nothing work.rows stops.count stops.nothing)

  behind_one : (nonce : List ℕ) (nonces : List (List ℕ)) (work : Work) (counts : List Count) (on : TurnsOn kind tokens nonce work counts)
      → Mismatches kind tokens nonces on.after on.left field → Mismatches kind tokens (nonce ∷ nonces) work counts field
  behind_one nonce nonces work counts on later =
      let same = on.step later.before in
      record {
        before = nonce ∷ later.before;
        nonce = later.nonce;
        behind = later.behind;
        nonces_are = ap (λ all. nonce ∷ all) later.nonces_are;
        went_on = same.mismatch ∙ later.went_on;
        row = later.row;
        rows = later.rows;
        row_is = ap (λ (work : Work). work.aside) same.work ∙ later.row_is;
        field_is = later.field_is;
        count = later.count;
        counts_left = later.counts_left;
        count_is = same.rest ∙ later.count_is;
        no_null_anchor = ap (λ (work : Work). has work.rows (id_of Anchor later.count.token 0)) same.work ∙ later.no_null_anchor;
        no_anchor = later.no_anchor;
        no_position = later.no_position;
      }

  pub mismatches : (nonces : List (List ℕ)) (work : Work) (counts : List Count) → (units kind tokens nonces work counts).mismatch ≡ Some field
      → Mismatches kind tokens nonces work counts field
  mismatches [] work counts some = absurd (none_some field some)
  mismatches (nonce ∷ nonces) work counts some = elim (turn kind tokens nonce work counts) [
    | inl on ↦ behind_one nonce nonces work counts on (mismatches nonces on.after on.left (sym (on.step nonces).mismatch ∙ some))
    | inr end ↦ elim end [
      | inl stops ↦ record {
        before = [];
        nonce = nonce;
        behind = nonces;
        nonces_are = refl;
        went_on = refl;
        row = stops.row;
        rows = stops.rows;
        row_is = stops.row_is;
        field_is = same_some stops.row.field field (sym (stops_so nonce nonces work counts stops) ∙ some);
        count = stops.count;
        counts_left = stops.counts_left;
        count_is = stops.count_is;
        no_null_anchor = stops.nothing.no_null_anchor;
        no_anchor = stops.nothing.no_anchor;
        no_position = stops.nothing.no_position;
      }
      | inr over ↦ absurd (none_some field (sym (over.quiet nonces) ∙ some))
    ]
  ]

  -- the mismatch behind some units
  stops_behind : (before : List (List ℕ)) (nonce : List ℕ) (behind : List (List ℕ)) (work : Work) (counts : List Count) (row : Entry) (rows : List Entry) (count : Count) (left : List Count)
      → (units kind tokens before work counts).mismatch ≡ None → (units kind tokens before work counts).work.aside ≡ row ∷ rows
      → (units kind tokens before work counts).rest ≡ count ∷ left → FindsNothing (units kind tokens before work counts).work.rows count
      → (units kind tokens (before ++ nonce ∷ behind) work counts).mismatch ≡ Some row.field
  stops_behind [] nonce behind work counts row rows count left went row_is count_is nothing =
      stops_so nonce behind work counts (record { row = row; rows = rows; row_is = row_is; count = count; counts_left = left; count_is = count_is; nothing = nothing })
  stops_behind (first ∷ before) nonce behind work counts row rows count left went row_is count_is nothing = elim (turn kind tokens first work counts) [
    | inl on ↦
        let same = on.step before in
        (on.step (before ++ nonce ∷ behind)).mismatch
        ∙ stops_behind before nonce behind on.after on.left row rows count left (sym same.mismatch ∙ went) (sym (ap (λ (work : Work). work.aside) same.work) ∙ row_is)
        (sym same.rest ∙ count_is) (subst (λ (work : Work). FindsNothing work.rows count) same.work nothing)
    | inr end ↦ elim end [
      | inl stops ↦ absurd (some_none stops.row.field (sym (stops_so first before work counts stops) ∙ went))
      | inr over ↦ absurd (over.none before row rows count left row_is count_is)
    ]
  ]

  pub is_mismatched : (nonces : List (List ℕ)) (work : Work) (counts : List Count) → Mismatches kind tokens nonces work counts field
      → (units kind tokens nonces work counts).mismatch ≡ Some field
  is_mismatched nonces work counts meets =
      ap (λ all. (units kind tokens all work counts).mismatch) meets.nonces_are
      ∙ stops_behind meets.before meets.nonce meets.behind work counts meets.row meets.rows meets.count meets.counts_left meets.went_on meets.row_is meets.count_is
      (record { no_null_anchor = meets.no_null_anchor; no_anchor = meets.no_anchor; no_position = meets.no_position })
      ∙ ap (λ n. Some n) meets.field_is
