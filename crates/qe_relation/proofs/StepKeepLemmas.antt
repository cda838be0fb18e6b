-- The relation is kept by the units of a step, and a mismatch comes exactly where a row is opened with another token than its field's.
use Rattle.std.proofs.Common.{◌≡◌, ℕ, ◌≤◌, true, false, List, [], ◌∷◌, length, Option, None, Some, refl, sym, ap, ◌∙◌, subst, ⊎_elim}
use Rattle.std.proofs.lemmas.Bool.{cond_both, MatchBool-at_false}
use Rattle.std.proofs.lemmas.List.{append-nil}
use Rattle.std.specs.List.{AllByRecursion}
use Rattle.std.specs.FinMap.{remove}
use Rattle.qe_base.specs.declared.maintenance.Count.{Count}
use Rattle.qe_base.specs.declared.maintenance.JobKind.{JobKind}
use Rattle.qe_base.specs.declared.maintenance.JobKind.TheVariants.{Compact, Cleanup}
use Rattle.qe_tokens.specs.Labels.{row_token}
use Rattle.qe_tokens.specs.declared.words.FieldToken.{FieldToken}
use Rattle.qe_tokens.specs.declared.words.Word.TheVariants.{Stray}
use Rattle.qe_esc.specs.Pairs.{null_pair}
use Rattle.qe_ecoc.specs.Opening.{opened}
use Rattle.qe_ecoc.specs.declared.rows.Entry.{Entry}
use Rattle.qe_protocol.specs.Counting.{IsCounted}
use Rattle.qe_protocol.specs.Laws.{AreLong}
use Rattle.qe_protocol.specs.Units.{Work, UnitsDone, units, unit_then, stopped, with_opened, row_done, doomed_done, captured_done, is_mismatch, opened_row, AllowedUnit, AllowedUnits, compacted, cleaned, anchors_after}
use Rattle.qe_labels.specs.Numbers.{Numbers}
use Rattle.qe_labels.specs.Laws.{IsFree}
use Rattle.qe_relation.specs.Shape.{shape}
use Rattle.qe_relation.specs.Stands.{HasRow, IsKnownRow, IsCaptured, IsDoomed, IndexStands, WorkStands}
use Rattle.qe_relation.specs.Steps.{HasRightToken, IsStray, IsOpenedKnown, TellsMismatch}
use Rattle.qe_relation.proofs.ChangeLemmas.{Moved}
use Rattle.qe_relation.proofs.FreeLemmas.{count_is}
use Rattle.qe_relation.proofs.RowUnitLemmas.{position_taken, anchor_taken}
use Rattle.qe_relation.proofs.UnitKeepLemmas.{lists_moved, row_finished, compact_moves, cleanup_cleans, doomed_found, mismatch_none, mismatch_some}

stray_token : (root : ℕ → List ℕ) (token : List ℕ) → row_token root (Stray token) ≡ token
unfolding row_token
stray_token root token = refl

module _ (root : ℕ → List ℕ) (numbers : Numbers) (free : IsFree root numbers) (ecoc : List Entry) (kind : JobKind) (tokens : List FieldToken) where
  -- a row that is opened with its field's token
  module _ (work : Work) (row : Entry) (rest : List Entry) (stand : IndexStands root numbers work.rows ecoc (row ∷ rest) work.captured work.doomed)
      (right : HasRightToken root tokens row) (count : Count) (counts : IsCounted work.rows (opened_row tokens row).token count) where
    known_row : IsKnownRow root numbers row
    known_row = stand.aside_known.0

    opens : (opened_row tokens row).token ≡ row_token root known_row.word
    opens = ap (λ key. (opened key row.value).token) right ∙ known_row.is.opens

    counts_word : IsCounted work.rows (row_token root known_row.word) count
    counts_word = subst (λ token. IsCounted work.rows token count) opens counts

    -- no other count is true
    pub right_one : (other : Count) → IsCounted work.rows (opened_row tokens row).token other → other ≡ count
    right_one other others =
        count_is root numbers free work.rows stand.rows_stand known_row.word known_row.n known_row.known other (others.searched ∙ opens) others.is_true
        ∙ sym (count_is root numbers free work.rows stand.rows_stand known_row.word known_row.n known_row.known count counts_word.searched counts_word.is_true)

    pub right_row : is_mismatch work.rows count ≡ false
    right_row = mismatch_some root numbers free work.rows stand.rows_stand known_row.word known_row.n known_row.known count counts_word known_row.some

    pub finished_by : (nonce : List ℕ) → length nonce ≡ 16 → (job : JobKind) → WorkStands root numbers ecoc (row_done job tokens nonce work row rest count)
    finished_by nonce long Compact =
        let moved = compact_moves root numbers free work.rows stand.rows_stand known_row.word known_row.n known_row.known count counts_word nonce long in
        subst (λ doomed. IndexStands root numbers (compacted work.rows count nonce) ecoc rest work.captured doomed) (append-nil work.doomed)
        (row_finished root numbers free work.rows (compacted work.rows count nonce) ecoc rest work.captured work.doomed [] row stand known_row.word known_row.n known_row.known
        known_row.is moved.0 moved.1 tt)
    finished_by nonce long Cleanup =
        let clean = cleanup_cleans root numbers free work.rows stand.rows_stand known_row.word known_row.n known_row.known count counts_word known_row.some nonce long in
        row_finished root numbers free work.rows (cleaned work.rows count nonce) ecoc rest work.captured work.doomed
        (anchors_after count.token (null_pair work.rows count.token).0 count.hop) row stand known_row.word known_row.n known_row.known known_row.is clean.moved clean.base
        (doomed_found root numbers free work.rows stand.rows_stand known_row.word known_row.n known_row.known count counts_word (cleaned work.rows count nonce) clean.apos)

  -- a row that is opened with another one
  pub stray_row : (work : Work) (row : Entry) (rest : List Entry) → IndexStands root numbers work.rows ecoc (row ∷ rest) work.captured work.doomed → IsStray root numbers tokens row
      → (count : Count) → IsCounted work.rows (opened_row tokens row).token count → is_mismatch work.rows count ≡ true
  stray_row work row rest stand stray count counts =
      let token = (opened_row tokens row).token in
      mismatch_none root numbers free work.rows stand.rows_stand (Stray token) 0 stray count
      (subst (λ t. IsCounted work.rows t count) (sym (stray_token root token)) counts) refl

  stray_one : (work : Work) (row : Entry) (rest : List Entry) → IndexStands root numbers work.rows ecoc (row ∷ rest) work.captured work.doomed → IsStray root numbers tokens row
      → (count other : Count) → IsCounted work.rows (opened_row tokens row).token count → IsCounted work.rows (opened_row tokens row).token other → other ≡ count
  stray_one work row rest stand stray count other counts others =
      let token = (opened_row tokens row).token in
      let is : token ≡ row_token root (Stray token) = sym (stray_token root token) in
      count_is root numbers free work.rows stand.rows_stand (Stray token) 0 stray other (others.searched ∙ is) others.is_true
      ∙ sym (count_is root numbers free work.rows stand.rows_stand (Stray token) 0 stray count (counts.searched ∙ is) counts.is_true)

  pub row_one : (work : Work) (row : Entry) (rest : List Entry) → work.aside ≡ row ∷ rest → WorkStands root numbers ecoc work → IsOpenedKnown root numbers tokens row
      → (count other : Count) → IsCounted work.rows (opened_row tokens row).token count → IsCounted work.rows (opened_row tokens row).token other → other ≡ count
  row_one work row rest is stand known count other counts others =
      let first : IndexStands root numbers work.rows ecoc (row ∷ rest) work.captured work.doomed =
      subst (λ rows. IndexStands root numbers work.rows ecoc rows work.captured work.doomed) is stand in
      ⊎_elim
      (λ (right : HasRightToken root tokens row). right_one work row rest first right count counts other others)
      (λ (stray : IsStray root numbers tokens row). stray_one work row rest first stray count other counts others)
      known

  -- an identifier is taken out
  pub doomed_out : (work : Work) (id : List ℕ) (rest : List (List ℕ)) → work.doomed ≡ id ∷ rest → WorkStands root numbers ecoc work → WorkStands root numbers ecoc (doomed_done work id rest)
  doomed_out work id rest is stand =
      let first : IndexStands root numbers work.rows ecoc work.aside work.captured (id ∷ rest) = subst (IndexStands root numbers work.rows ecoc work.aside work.captured) is stand in
      let d : IsDoomed root numbers work.rows id = first.are_doomed.0 in
      let moved : Moved root numbers work.rows (remove work.rows id) =
      subst (λ q. Moved root numbers work.rows (remove work.rows q)) (sym d.is) (anchor_taken root numbers free work.rows first.rows_stand d.word d.n d.known d.i d.low d.high) in
      let after = lists_moved root numbers free work.rows (remove work.rows id) moved ecoc work.aside work.captured (id ∷ rest) first in
      record {
        rows_stand = after.rows_stand;
        ecoc_known = after.ecoc_known;
        aside_known = after.aside_known;
        covered = after.covered;
        are_captured = after.are_captured;
        are_doomed = after.are_doomed.1;
      }

  pub captured_out : (work : Work) (id : List ℕ) (rest : List (List ℕ)) → work.aside ≡ [] → work.captured ≡ id ∷ rest → WorkStands root numbers ecoc work → WorkStands root numbers ecoc (captured_done work id rest)
  captured_out work id rest none is stand =
      let first : IndexStands root numbers work.rows ecoc work.aside (id ∷ rest) work.doomed = subst (λ captured. IndexStands root numbers work.rows ecoc work.aside captured work.doomed) is stand in
      let c : IsCaptured root numbers work.rows work.aside id = first.are_captured.0 in
      let p = c.position in
      let by_anchor : p.i ≤ (shape work.rows (row_token root p.word) p.n).base = ⊎_elim
      (λ (counted_by : p.i ≤ (shape work.rows (row_token root p.word) p.n).base). counted_by)
      (λ (row : HasRow root p.word work.aside). let gone : HasRow root p.word [] = subst (HasRow root p.word) none row in absurd gone)
      c.covered in
      let moved : Moved root numbers work.rows (remove work.rows id) =
      subst (λ q. Moved root numbers work.rows (remove work.rows q)) (sym p.is) (position_taken root numbers free work.rows first.rows_stand p.word p.n p.known p.i p.low by_anchor) in
      let after = lists_moved root numbers free work.rows (remove work.rows id) moved ecoc work.aside (id ∷ rest) work.doomed first in
      record {
        rows_stand = after.rows_stand;
        ecoc_known = after.ecoc_known;
        aside_known = after.aside_known;
        covered = after.covered;
        are_captured = after.are_captured.1;
        are_doomed = after.are_doomed;
      }

  -- what is to be shown of the units of a step
  pub record IsKept (done : UnitsDone) : Type 0 where
    pub stand : WorkStands root numbers ecoc done.work
    pub tells : TellsMismatch root tokens done.mismatch done.opened

  abbrev Known : UnitsDone → Type 0
  Known done = AllByRecursion (IsOpenedKnown root numbers tokens) done.opened

  tells_before : (row : Entry) → HasRightToken root tokens row → (mismatch : Option ℕ) (rows : List Entry) → TellsMismatch root tokens mismatch rows → TellsMismatch root tokens mismatch (row ∷ rows)
  tells_before row right None rows tells = (right, tells)
  tells_before row right (Some field) rows tells = record {
    front = row ∷ tells.front;
    row = tells.row;
    is = ap (λ (more : List Entry). row ∷ more) tells.is;
    right = (right, tells.right);
    wrong = tells.wrong;
    field = tells.field;
  }

  module _ (nonce : List ℕ) (long : length nonce ≡ 16) (nonces : List (List ℕ))
      (more : (work : Work) (counts : List Count) → WorkStands root numbers ecoc work → AllowedUnits kind tokens nonces work counts → Known (units kind tokens nonces work counts)
      → IsKept (units kind tokens nonces work counts)) where
    kept_by : (rows : List Entry) (doomed captured : List (List ℕ)) (counts : List Count) (work : Work) → work.aside ≡ rows → work.doomed ≡ doomed → work.captured ≡ captured
        → WorkStands root numbers ecoc work → AllowedUnit (AllowedUnits kind tokens nonces) kind tokens nonce rows doomed captured work counts
        → Known (unit_then (units kind tokens nonces) kind tokens nonce rows doomed captured work counts)
        → IsKept (unit_then (units kind tokens nonces) kind tokens nonce rows doomed captured work counts)
    kept_by (row ∷ rest) doomed captured [] work is d x stand allowed known = absurd allowed
    kept_by (row ∷ rest) doomed captured (count ∷ counts) work is d x stand allowed known =
        let first : IndexStands root numbers work.rows ecoc (row ∷ rest) work.captured work.doomed =
        subst (λ rows. IndexStands root numbers work.rows ecoc rows work.captured work.doomed) is stand in
        let after = row_done kind tokens nonce work row rest count in
        cond_both (is_mismatch work.rows count) (stopped work (Some row.field) (row ∷ []) counts) (with_opened row (units kind tokens nonces after counts))
        (λ done. Known done → IsKept done)
        (λ (wrong : is_mismatch work.rows count ≡ true) opened_known. record {
          stand = stand;
          tells = record {
            front = [];
            row = row;
            is = refl;
            right = tt;
            wrong = λ right. let no_mismatch : is_mismatch work.rows count ≡ false = right_row work row rest first right count allowed.0 in cc;
            field = refl;
          };
        })
        (λ (none : is_mismatch work.rows count ≡ false) opened_known.
        let right : HasRightToken root tokens row = ⊎_elim
        (λ (so : HasRightToken root tokens row). so)
        (λ (stray : IsStray root numbers tokens row).
        let mismatch : is_mismatch work.rows count ≡ true = stray_row work row rest first stray count allowed.0 in
        absurd (cc))
        opened_known.0 in
        let rest_kept = more after counts (finished_by work row rest first right count allowed.0 nonce long kind)
        (MatchBool-at_false (counts ≡ []) (AllowedUnits kind tokens nonces after counts) none allowed.1) opened_known.1 in
        record {
          stand = rest_kept.stand;
          tells = tells_before row right (units kind tokens nonces after counts).mismatch (units kind tokens nonces after counts).opened rest_kept.tells;
        })
        known
    kept_by [] (id ∷ rest) captured counts work is d x stand allowed known = more (doomed_done work id rest) counts (doomed_out work id rest d stand) allowed known
    kept_by [] [] (id ∷ rest) counts work is d x stand allowed known = more (captured_done work id rest) counts (captured_out work id rest is x stand) allowed known
    kept_by [] [] [] counts work is d x stand allowed known = record { stand = stand; tells = tt }

  pub units_kept : (nonces : List (List ℕ)) → AreLong nonces → (work : Work) (counts : List Count) → WorkStands root numbers ecoc work
      → AllowedUnits kind tokens nonces work counts → Known (units kind tokens nonces work counts) → IsKept (units kind tokens nonces work counts)
  units_kept [] long work counts stand allowed known = record { stand = stand; tells = tt }
  units_kept (nonce ∷ nonces) long work counts stand allowed known =
      kept_by nonce long.0 nonces (units_kept nonces long.1) work.aside work.doomed work.captured counts work refl refl refl stand allowed known
