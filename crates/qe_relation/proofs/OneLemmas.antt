-- Without a clash the counts of items, of searches and of units are the only true ones.
use Rattle.std.proofs.Common.{◌≡◌, ℕ, true, false, List, [], ◌∷◌, ◌++◌, length, map, Some, refl, sym, ap, ◌∙◌, subst, ⊎_elim}
use Rattle.std.proofs.lemmas.Bool.{cases_Bool, cond-true, cond-false, MatchBool-at_true, MatchBool-at_false}
use Rattle.std.specs.Prelude.{drop}
use Rattle.std.specs.List.{AllByRecursion}
use Rattle.std.specs.FinMap.{get}
use Rattle.qe_base.specs.declared.maintenance.Count.{Count}
use Rattle.qe_base.specs.declared.maintenance.JobKind.{JobKind}
use Rattle.qe_tokens.specs.Labels.{row_token}
use Rattle.qe_tokens.specs.declared.words.FieldToken.{FieldToken}
use Rattle.qe_tokens.specs.declared.words.Word.{Word}
use Rattle.qe_tokens.specs.declared.words.Word.TheVariants.{Item}
use Rattle.qe_esc.specs.Rows.{Rows}
use Rattle.qe_ecoc.specs.declared.rows.Entry.{Entry}
use Rattle.qe_parts.specs.declared.edges.EdgeTokens.{EdgeTokens}
use Rattle.qe_protocol.specs.State.{Index}
use Rattle.qe_protocol.specs.Counting.{counted}
use Rattle.qe_protocol.specs.Filters.{Search, AllowedSearches, found_tags, tags_upto}
use Rattle.qe_protocol.specs.Indexing.{indexed, index_items, AllowedItems}
use Rattle.qe_protocol.specs.Laws.{AreLong}
use Rattle.qe_protocol.specs.Units.{Work, UnitsDone, units, unit_then, stopped, with_opened, row_done, doomed_done, captured_done, is_mismatch, AllowedUnit, AllowedUnits}
use Rattle.qe_labels.specs.Numbers.{Numbers, raised, all_raised}
use Rattle.qe_labels.specs.Tags.{words_under}
use Rattle.qe_labels.specs.Laws.{IsFree}
use Rattle.qe_labels.proofs.NumberLemmas.{later_all_raised, free_before}
use Rattle.qe_relation.specs.Stands.{IndexStands, RowsStand, WorkStands}
use Rattle.qe_relation.specs.Items.{AreItemsOf}
use Rattle.qe_relation.specs.Steps.{HasRightToken, IsOpenedKnown, IsStray}
use Rattle.qe_relation.proofs.FreeLemmas.{count_is}
use Rattle.qe_relation.proofs.ItemLemmas.{item_kept, item_one}
use Rattle.qe_relation.proofs.StepKeepLemmas.{row_one, stray_row, finished_by, doomed_out, captured_out}

-- ---- items
module _ (root : ℕ → List ℕ) (aside : List Entry) (captured doomed : List (List ℕ)) (field factor : ℕ) where
  pub record ItemsOne (index : Index) (items : List EdgeTokens) (nonces : List (List ℕ)) (counts others : List Count) : Type 0 where
    pub index_is : (index_items field factor index items nonces others).index ≡ (index_items field factor index items nonces counts).index
    pub join : (index_items field factor index items nonces others).rest ≡ (index_items field factor index items nonces counts).rest → others ≡ counts

  pub items_one : (xs : List (List ℕ)) (items : List EdgeTokens) (counts others : List Count) (nonces : List (List ℕ)) (numbers : Numbers) (index : Index)
      → AreItemsOf root field factor xs items → AllowedItems field index items counts → AllowedItems field index items others
      → IsFree root (all_raised numbers (words_under field factor xs)) → IndexStands root numbers index.rows index.ecoc aside captured doomed
      → ItemsOne index items nonces counts others
  items_one [] [] counts others nonces numbers index are allowed also free stand = record { index_is = refl; join = λ same. same }
  items_one [] (item ∷ items) counts others nonces numbers index are allowed also free stand = absurd are
  items_one (x ∷ xs) [] counts others nonces numbers index are allowed also free stand = absurd are
  items_one (x ∷ xs) (item ∷ items) [] others nonces numbers index are allowed also free stand = absurd allowed
  items_one (x ∷ xs) (item ∷ items) (count ∷ counts) [] nonces numbers index are allowed also free stand = absurd also
  items_one (x ∷ xs) (item ∷ items) (count ∷ counts) (other ∷ others) nonces numbers index are allowed also free stand =
      let first = raised numbers (Item field x factor) in
      let free_first = free_before root first (all_raised first (words_under field factor xs)) (later_all_raised (words_under field factor xs) first) free in
      let same : other ≡ count = item_one root aside captured doomed field factor x item are.0 numbers index count allowed.0 free_first stand other also.0 in
      let rest : ItemsOne (indexed field index count item) items (drop 2 nonces) counts others =
      items_one xs items counts others (drop 2 nonces) first (indexed field index count item) are.1 allowed.1
      (subst (λ k. AllowedItems field (indexed field index k item) items others) same also.1) free
      (item_kept root aside captured doomed field factor x item are.0 numbers index count allowed.0 free_first stand) in
      record {
        index_is = ap (λ k. (index_items field factor (indexed field index k item) items (drop 2 nonces) others).index) same ∙ rest.index_is;
        join = λ equal. (λ i. same i ∷ rest.join (ap (λ k. (index_items field factor (indexed field index k item) items (drop 2 nonces) others).rest) (sym same) ∙ equal) i);
      }

-- ---- searches for known words
module _ (root : ℕ → List ℕ) (numbers : Numbers) (free : IsFree root numbers) (rows : Rows) (stand : RowsStand root numbers rows) (key : Word → List ℕ) where
  abbrev pub search_by : Word → Search
  search_by word = record { token = row_token root word; key = key word }

  pub record SearchesOne (words : List Word) (counts others : List Count) : Type 0 where
    pub found : found_tags rows (map search_by words) others ≡ found_tags rows (map search_by words) counts
    pub join : drop (length (map search_by words)) others ≡ drop (length (map search_by words)) counts → others ≡ counts

  pub searches_one : (words : List Word) → AllByRecursion (λ word. (n : ℕ) × (get numbers word ≡ Some n)) words → (counts others : List Count)
      → AllowedSearches rows (map search_by words) counts → AllowedSearches rows (map search_by words) others → SearchesOne words counts others
  searches_one [] known counts others allowed also = record { found = refl; join = λ same. same }
  searches_one (word ∷ words) known [] others allowed also = absurd allowed
  searches_one (word ∷ words) known (count ∷ counts) [] allowed also = absurd also
  searches_one (word ∷ words) known (count ∷ counts) (other ∷ others) allowed also =
      let same : other ≡ count =
      count_is root numbers free rows stand word known.0.0 known.0.1 other also.0.searched also.0.is_true
      ∙ sym (count_is root numbers free rows stand word known.0.0 known.0.1 count allowed.0.searched allowed.0.is_true) in
      let rest : SearchesOne words counts others = searches_one words known.1 counts others allowed.1 also.1 in
      record {
        found = λ i. tags_upto (key word) (counted rows (same i)) ++ rest.found i;
        join = λ equal. (λ i. same i ∷ rest.join equal i);
      }

-- ---- units
module _ (root : ℕ → List ℕ) (numbers : Numbers) (free : IsFree root numbers) (ecoc : List Entry) (kind : JobKind) (tokens : List FieldToken) where
  abbrev Known : UnitsDone → Type 0
  Known done = AllByRecursion (IsOpenedKnown root numbers tokens) done.opened

  module _ (nonce : List ℕ) (long : length nonce ≡ 16) (nonces : List (List ℕ))
      (more : (work : Work) (counts others : List Count) → WorkStands root numbers ecoc work → AllowedUnits kind tokens nonces work counts
      → AllowedUnits kind tokens nonces work others → Known (units kind tokens nonces work counts) → others ≡ counts) where
    one_by : (rows : List Entry) (doomed captured : List (List ℕ)) (counts others : List Count) (work : Work) → work.aside ≡ rows → work.doomed ≡ doomed → work.captured ≡ captured
        → WorkStands root numbers ecoc work → AllowedUnit (AllowedUnits kind tokens nonces) kind tokens nonce rows doomed captured work counts
        → AllowedUnit (AllowedUnits kind tokens nonces) kind tokens nonce rows doomed captured work others
        → Known (unit_then (units kind tokens nonces) kind tokens nonce rows doomed captured work counts) → others ≡ counts
    one_by (row ∷ rest) doomed captured [] others work is d x stand allowed also known = absurd allowed
    one_by (row ∷ rest) doomed captured (count ∷ counts) [] work is d x stand allowed also known = absurd also
    one_by (row ∷ rest) doomed captured (count ∷ counts) (other ∷ others) work is d x stand allowed also known =
        let first : IndexStands root numbers work.rows ecoc (row ∷ rest) work.captured work.doomed =
        subst (λ rows. IndexStands root numbers work.rows ecoc rows work.captured work.doomed) is stand in
        let after = row_done kind tokens nonce work row rest count in
        ⊎_elim
        (λ (wrong : is_mismatch work.rows count ≡ true).
        let opened_known : Known (stopped work (Some row.field) (row ∷ []) counts) =
        subst Known (cond-true (is_mismatch work.rows count) (stopped work (Some row.field) (row ∷ []) counts) (with_opened row (units kind tokens nonces after counts)) wrong) known in
        let same : other ≡ count = row_one root numbers free ecoc kind tokens work row rest is stand opened_known.0 count other allowed.0 also.0 in
        let none : counts ≡ [] = MatchBool-at_true (counts ≡ []) (AllowedUnits kind tokens nonces after counts) wrong allowed.1 in
        let also_none : others ≡ [] =
        MatchBool-at_true (others ≡ []) (AllowedUnits kind tokens nonces (row_done kind tokens nonce work row rest other) others) (ap (is_mismatch work.rows) same ∙ wrong) also.1 in
        (λ i. same i ∷ (also_none ∙ sym none) i))
        (λ (going : is_mismatch work.rows count ≡ false).
        let opened_known : Known (with_opened row (units kind tokens nonces after counts)) =
        subst Known (cond-false (is_mismatch work.rows count) (stopped work (Some row.field) (row ∷ []) counts) (with_opened row (units kind tokens nonces after counts)) going) known in
        let same : other ≡ count = row_one root numbers free ecoc kind tokens work row rest is stand opened_known.0 count other allowed.0 also.0 in
        let right : HasRightToken root tokens row = ⊎_elim
        (λ (so : HasRightToken root tokens row). so)
        (λ (stray : IsStray root numbers tokens row).
        let mismatch : is_mismatch work.rows count ≡ true = stray_row root numbers free ecoc kind tokens work row rest first stray count allowed.0 in
        absurd (cc))
        opened_known.0 in
        let allowed_rest = MatchBool-at_false (counts ≡ []) (AllowedUnits kind tokens nonces after counts) going allowed.1 in
        let also_rest : AllowedUnits kind tokens nonces after others =
        subst (λ k. AllowedUnits kind tokens nonces (row_done kind tokens nonce work row rest k) others) same
        (MatchBool-at_false (others ≡ []) (AllowedUnits kind tokens nonces (row_done kind tokens nonce work row rest other) others) (ap (is_mismatch work.rows) same ∙ going) also.1) in
        let behind : others ≡ counts = more after counts others (finished_by root numbers free ecoc kind tokens work row rest first right count allowed.0 nonce long kind)
        allowed_rest also_rest opened_known.1 in
        (λ i. same i ∷ behind i))
        (cases_Bool (is_mismatch work.rows count))
    one_by [] (id ∷ rest) captured counts others work is d x stand allowed also known =
        more (doomed_done work id rest) counts others (doomed_out root numbers free ecoc kind tokens work id rest d stand) allowed also known
    one_by [] [] (id ∷ rest) counts others work is d x stand allowed also known =
        more (captured_done work id rest) counts others (captured_out root numbers free ecoc kind tokens work id rest is x stand) allowed also known
    one_by [] [] [] counts others work is d x stand allowed also known = also ∙ sym allowed

  pub units_one : (nonces : List (List ℕ)) → AreLong nonces → (work : Work) (counts others : List Count) → WorkStands root numbers ecoc work
      → AllowedUnits kind tokens nonces work counts → AllowedUnits kind tokens nonces work others → Known (units kind tokens nonces work counts) → others ≡ counts
  units_one [] long work counts others stand allowed also known = also ∙ sym allowed
  units_one (nonce ∷ nonces) long work counts others stand allowed also known =
      one_by nonce long.0 nonces (units_one nonces long.1) work.aside work.doomed work.captured counts others work refl refl refl stand allowed also known
