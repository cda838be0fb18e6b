-- The searches of a step count how often the words of the rows were indexed that it opens.
use Rattle.std.proofs.Common.{◌≡◌, ℕ, true, false, List, [], ◌∷◌, length, map, Some, refl, sym, ap, ◌∙◌, subst, ⊎_elim}
use Rattle.std.specs.List.{AllByRecursion}
use Rattle.std.proofs.lemmas.Bool.{MatchBool-at_false, MatchBool-at_true, cond-false, cond-true, cond_both}
use Rattle.qe_base.specs.declared.maintenance.Count.{Count}
use Rattle.qe_base.specs.declared.maintenance.JobKind.{JobKind}
use Rattle.qe_tokens.specs.Labels.{row_token}
use Rattle.qe_tokens.specs.declared.words.FieldToken.{FieldToken}
use Rattle.qe_tokens.specs.declared.words.Word.{Word}
use Rattle.qe_tokens.specs.declared.words.Word.TheVariants.{Stray}
use Rattle.qe_ecoc.specs.Opening.{opened}
use Rattle.qe_ecoc.specs.declared.rows.Entry.{Entry}
use Rattle.qe_protocol.specs.Counting.{IsCounted}
use Rattle.qe_protocol.specs.Laws.{AreLong}
use Rattle.qe_protocol.specs.Units.{AllowedUnit, AllowedUnits, UnitsDone, Work, captured_done, doomed_done, is_mismatch, opened_row, row_done, stopped, unit_then, units, with_opened}
use Rattle.qe_labels.specs.Laws.{IsFree}
use Rattle.qe_labels.specs.Numbers.{Later, Numbers}
use Rattle.qe_labels.proofs.NumberLemmas.{free_before}
use Rattle.qe_relation.specs.Stands.{IndexStands, IsKnownRow, WorkStands}
use Rattle.qe_relation.specs.Steps.{HasRightToken, IsOpenedKnown, IsStray}
use Rattle.qe_relation.proofs.StepKeepLemmas.{captured_out, doomed_out, finished_by, stray_row}
use Rattle.qe_laws.specs.Entries.{CountsItsWord, times}
use Rattle.qe_laws.specs.Searches.{Searched, by_unit, by_units}
use Rattle.qe_laws.proofs.CountLemmas.{count_of, counts_word}

stray_token : (root : ℕ → List ℕ) (token : List ℕ) → row_token root (Stray token) ≡ token
unfolding row_token
stray_token root token = refl

-- ---- what is told
module _ (kind : JobKind) (tokens : List FieldToken) where
  told_by : (nonce : List ℕ) (nonces : List (List ℕ))
      → ((work : Work) (counts : List Count) → AllowedUnits kind tokens nonces work counts → map count_of (by_units kind tokens nonces work counts) ≡ counts)
      → (rows : List Entry) (doomed captured : List (List ℕ)) (work : Work) (counts : List Count)
      → AllowedUnit (AllowedUnits kind tokens nonces) kind tokens nonce rows doomed captured work counts
      → map count_of (by_unit (by_units kind tokens nonces) kind tokens nonce rows doomed captured work counts) ≡ counts
  told_by nonce nonces more (row ∷ rest) doomed captured work [] allowed = absurd allowed
  told_by nonce nonces more (row ∷ rest) doomed captured work (count ∷ counts) allowed =
      let after = row_done kind tokens nonce work row rest count in
      ap (λ (cs : List Count). count ∷ cs)
      (cond_both (is_mismatch work.rows count) [] (by_units kind tokens nonces after counts) (λ (s : List Searched). map count_of s ≡ counts)
      (λ wrong. sym (MatchBool-at_true (counts ≡ []) (AllowedUnits kind tokens nonces after counts) wrong allowed.1))
      (λ going. more after counts (MatchBool-at_false (counts ≡ []) (AllowedUnits kind tokens nonces after counts) going allowed.1)))
  told_by nonce nonces more [] (id ∷ rest) captured work counts allowed = more (doomed_done work id rest) counts allowed
  told_by nonce nonces more [] [] (id ∷ rest) work counts allowed = more (captured_done work id rest) counts allowed
  told_by nonce nonces more [] [] [] work counts allowed = sym allowed

  pub told_units : (nonces : List (List ℕ)) (work : Work) (counts : List Count) → AllowedUnits kind tokens nonces work counts
      → map count_of (by_units kind tokens nonces work counts) ≡ counts
  told_units [] work counts allowed = sym allowed
  told_units (nonce ∷ nonces) work counts allowed = told_by nonce nonces (told_units nonces) work.aside work.doomed work.captured work counts allowed

-- ---- what is counted
module _ (root : ℕ → List ℕ) (before run : Numbers) (free : IsFree root run) (now : Numbers) (later : Later now run)
    (same : (word : Word) → times now word ≡ times before word) (ecoc : List Entry) (kind : JobKind) (tokens : List FieldToken) where
  abbrev Each : List Searched → Type 0
  Each searches = AllByRecursion (CountsItsWord root before run) searches

  abbrev Known : UnitsDone → Type 0
  Known done = AllByRecursion (IsOpenedKnown root now tokens) done.opened

  free_now : IsFree root now
  free_now = free_before root now run later free

  row_counts : (work : Work) (row : Entry) (rest : List Entry) → IndexStands root now work.rows ecoc (row ∷ rest) work.captured work.doomed → IsOpenedKnown root now tokens row
      → (count : Count) → IsCounted work.rows (opened_row tokens row).token count
      → CountsItsWord root before run (record { rows = work.rows; token = (opened_row tokens row).token; count = count })
  row_counts work row rest stand known count counts =
      let token = (opened_row tokens row).token in
      ⊎_elim
      (λ (right : HasRightToken root tokens row).
      let of_word : IsKnownRow root now row = stand.aside_known.0 in
      let opens : token ≡ row_token root of_word.word = ap (λ key. (opened key row.value).token) right ∙ of_word.is.opens in
      counts_word root before run free now later work.rows stand.rows_stand of_word.word of_word.n of_word.known (same of_word.word) token count opens counts)
      (λ (stray : IsStray root now tokens row).
      counts_word root before run free now later work.rows stand.rows_stand (Stray token) 0 stray (same (Stray token)) token count (sym (stray_token root token)) counts)
      known

  module _ (nonce : List ℕ) (long : length nonce ≡ 16) (nonces : List (List ℕ))
      (more : (work : Work) (counts : List Count) → WorkStands root now ecoc work → AllowedUnits kind tokens nonces work counts
      → Known (units kind tokens nonces work counts) → Each (by_units kind tokens nonces work counts)) where
    count_by : (rows : List Entry) (doomed captured : List (List ℕ)) (counts : List Count) (work : Work) → work.aside ≡ rows → work.doomed ≡ doomed → work.captured ≡ captured
        → WorkStands root now ecoc work → AllowedUnit (AllowedUnits kind tokens nonces) kind tokens nonce rows doomed captured work counts
        → Known (unit_then (units kind tokens nonces) kind tokens nonce rows doomed captured work counts)
        → Each (by_unit (by_units kind tokens nonces) kind tokens nonce rows doomed captured work counts)
    count_by (row ∷ rest) doomed captured [] work is d x stand allowed known = absurd allowed
    count_by (row ∷ rest) doomed captured (count ∷ counts) work is d x stand allowed known =
        let first : IndexStands root now work.rows ecoc (row ∷ rest) work.captured work.doomed =
        subst (λ rows. IndexStands root now work.rows ecoc rows work.captured work.doomed) is stand in
        let after = row_done kind tokens nonce work row rest count in
        let search : Searched = record { rows = work.rows; token = (opened_row tokens row).token; count = count } in
        let wrong_done = stopped work (Some row.field) (row ∷ []) counts in
        let going_done = with_opened row (units kind tokens nonces after counts) in
        cond_both (is_mismatch work.rows count) [] (by_units kind tokens nonces after counts) (λ (s : List Searched). Each (search ∷ s))
        (λ (wrong : is_mismatch work.rows count ≡ true).
        let opened_known : Known wrong_done = subst Known (cond-true (is_mismatch work.rows count) wrong_done going_done wrong) known in
        (row_counts work row rest first opened_known.0 count allowed.0, tt))
        (λ (going : is_mismatch work.rows count ≡ false).
        let opened_known : Known going_done = subst Known (cond-false (is_mismatch work.rows count) wrong_done going_done going) known in
        let right : HasRightToken root tokens row = ⊎_elim
        (λ (so : HasRightToken root tokens row). so)
        (λ (stray : IsStray root now tokens row).
        let mismatch : is_mismatch work.rows count ≡ true = stray_row root now free_now ecoc kind tokens work row rest first stray count allowed.0 in
        absurd (cc))
        opened_known.0 in (
          row_counts work row rest first opened_known.0 count allowed.0,
          more after counts (finished_by root now free_now ecoc kind tokens work row rest first right count allowed.0 nonce long kind)
              (MatchBool-at_false (counts ≡ []) (AllowedUnits kind tokens nonces after counts) going allowed.1) opened_known.1,
        ))
    count_by [] (id ∷ rest) captured counts work is d x stand allowed known =
        more (doomed_done work id rest) counts (doomed_out root now free_now ecoc kind tokens work id rest d stand) allowed known
    count_by [] [] (id ∷ rest) counts work is d x stand allowed known =
        more (captured_done work id rest) counts (captured_out root now free_now ecoc kind tokens work id rest is x stand) allowed known
    count_by [] [] [] counts work is d x stand allowed known = tt

  pub units_count : (nonces : List (List ℕ)) → AreLong nonces → (work : Work) (counts : List Count) → WorkStands root now ecoc work
      → AllowedUnits kind tokens nonces work counts → Known (units kind tokens nonces work counts) → Each (by_units kind tokens nonces work counts)
  units_count [] long work counts stand allowed known = tt
  units_count (nonce ∷ nonces) long work counts stand allowed known =
      count_by nonce long.0 nonces (units_count nonces long.1) work.aside work.doomed work.captured counts work refl refl refl stand allowed known
