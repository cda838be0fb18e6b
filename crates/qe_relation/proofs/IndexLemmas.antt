-- The relation is kept where a word is learned, and where it is indexed once more.
use Rattle.std.proofs.Common.{◌≡◌, ℕ, ◌+◌, ◌*◌, ◌<◌, ◌≤◌, true, false, List, [], ◌∷◌, ◌++◌, Option, None, Some, refl, sym, ap, ◌∙◌, subst, arith, ◌⊎◌, inl, inr, ⊎_elim}
use Rattle.std.proofs.lemmas.Bool.{cond-true, cond-false, cases_Bool, cases_eq, false_from_ne_true}
use Rattle.std.specs.Prelude.{is_some, unwrap_or}
use Rattle.std.specs.FinMap.{get, insert, contains_key, same_map}
use Rattle.qe_tokens.specs.Labels.{row_token}
use Rattle.qe_tokens.specs.declared.words.Word.{Word}
use Rattle.qe_esc.specs.Rows.{Row, Rows, has}
use Rattle.qe_esc.specs.Identifiers.{id_of}
use Rattle.qe_esc.specs.Pairs.{null_pair, base_of}
use Rattle.qe_esc.specs.declared.key.RowKind.TheVariants.{Position, Anchor}
use Rattle.qe_ecoc.specs.declared.rows.Entry.{Entry}
use Rattle.qe_labels.specs.Numbers.{Numbers, learned, raised, all_learned}
use Rattle.qe_labels.specs.Laws.{IsFree}
use Rattle.qe_labels.proofs.OrderLemmas.{cases_word, number_same, number_other, words_total, words_exact}
use Rattle.qe_labels.proofs.NumberLemmas.{later_all_learned, other_learned, free_before}
use Rattle.qe_relation.specs.Shape.{Shape, shape}
use Rattle.qe_relation.specs.Stands.{IsRowOf, HasRow, IsKnownRow, IsPosition, IsNamed, RowsStand, IsCaptured, IsDoomed, IndexStands}
use Rattle.qe_relation.proofs.PlaceLemmas.{row_there, same_some, cases_id, SameBut, inserted_here, inserted_but, each_weaker, each_append}
use Rattle.qe_relation.proofs.ShapeLemmas.{IsShape, has_shape, hop_le, base_none, null_missing_pair}
use Rattle.qe_relation.proofs.FreeLemmas.{two_positions, two_anchors, position_no_anchor, one_number, no_position}
use Rattle.qe_relation.proofs.ChangeLemmas.{unaffected}

none_some : {A : Type 0} (o : Option A) (x : A) → o ≡ None → o ≡ Some x → ⊥
none_some o x none some = let met : None ≡ Some x = sym none ∙ some in cc

-- ---- each word keeps its number, and others have none or 0
module _ (root : ℕ → List ℕ) (before after : Numbers) (free : IsFree root after)
    (keeps : (word : Word) (n : ℕ) → get before word ≡ Some n → get after word ≡ Some n)
    (comes : (word : Word) (n : ℕ) → get after word ≡ Some n → (get before word ≡ Some n) ⊎ ((get before word ≡ None) × (n ≡ 0)))
    (rows : Rows) (was : RowsStand root before rows) where
  abbrev tok : Word → List ℕ
  tok word = row_token root word

  abbrev position_kept : (id : List ℕ) → IsPosition root before id → IsPosition root after id
  position_kept id p = record { word = p.word; n = p.n; known = keeps p.word p.n p.known; i = p.i; low = p.low; high = p.high; is = p.is }

  named_kept : (id : List ℕ) (row : Row) → IsNamed root before rows id row → IsNamed root after rows id row
  named_kept id None p = position_kept id p
  named_kept id (Some value) a =
      record { word = a.word; n = a.n; known = keeps a.word a.n a.known; some = a.some; i = a.i; high = a.high; is = a.is }

  last_before : (word : Word) (n : ℕ) → get before word ≡ Some n → (shape rows (tok word) n).apos + (shape rows (tok word) n).hop ≤ n
  last_before word n known = omega (arith, was.anchors word n known, was.counted word n known)

  -- a word that is new has no null anchor
  new_null : (word : Word) (n : ℕ) → get after word ≡ Some n → get before word ≡ None → has rows (id_of Anchor (tok word) 0) ≡ false
  new_null word n known new =
      false_from_ne_true (has rows (id_of Anchor (tok word) 0)) (λ there.
      let found = row_there (get rows (id_of Anchor (tok word) 0)) there in
      no_row found.0 (was.named (id_of Anchor (tok word) 0) found.0 found.1))
    where
      no_row : (row : Row) → IsNamed root before rows (id_of Anchor (tok word) 0) row → ⊥
      no_row None p =
          position_no_anchor root after free p.word word p.n n p.i 0 (keeps p.word p.n p.known) known p.low (omega (arith, p.high)) (omega arith) (sym p.is)
      no_row (Some value) a =
          let last : a.i ≤ a.n = omega (arith, a.high, last_before a.word a.n a.known) in
          let same = two_anchors root after free a.word word a.n n a.i 0 (keeps a.word a.n a.known) known (omega arith) (omega arith) (sym a.is) in
          none_some (get before word) a.n new (ap (get before) (sym same.word) ∙ a.known)

  abbrev empty : Shape
  empty = record { apos = 0; hop = 0; base = 0 }

  new_shape : (word : Word) (n : ℕ) → get after word ≡ Some n → get before word ≡ None → n ≡ 0 → shape rows (tok word) n ≡ empty
  new_shape word n known new none =
      let s : Shape = shape rows (tok word) n in
      let of_shape : IsShape rows (tok word) s = has_shape rows (tok word) n in
      let pair : null_pair rows (tok word) ≡ (0, 0) = null_missing_pair rows (tok word) (new_null word n known new) in
      let apos : s.apos ≡ 0 = ap (λ (p : ℕ × ℕ). p.0) (sym of_shape.null ∙ pair) in
      let within : s.hop ≤ n = hop_le rows (tok word) n in
      let hop : s.hop ≡ 0 = omega arith in
      let base : s.base ≡ 0 =
      sym of_shape.base ∙ ap (base_of rows (tok word)) hop ∙ base_none rows (tok word) ∙ ap (λ (p : ℕ × ℕ). p.1) pair in
      λ k. record { apos = apos k; hop = hop k; base = base k }

  rows_kept : RowsStand root after rows
  rows_kept = record {
    anchors = λ word n known. ⊎_elim (λ (old : get before word ≡ Some n). was.anchors word n old)
        (λ (new : (get before word ≡ None) × (n ≡ 0)).
        let is = new_shape word n known new.0 new.1 in
        omega (arith, ap (λ (s : Shape). s.apos) is, ap (λ (s : Shape). s.hop) is))
        (comes word n known);
    counted = λ word n known. ⊎_elim (λ (old : get before word ≡ Some n). was.counted word n old)
        (λ (new : (get before word ≡ None) × (n ≡ 0)). omega (arith, ap (λ (s : Shape). s.base) (new_shape word n known new.0 new.1)))
        (comes word n known);
    positions = λ word n known i more high. ⊎_elim (λ (old : get before word ≡ Some n). was.positions word n old i more high)
        (λ (new : (get before word ≡ None) × (n ≡ 0)). absurd (omega (arith, new.1)))
        (comes word n known);
    named = λ id row there. named_kept id row (was.named id row there);
  }

  known_kept : (row : Entry) → IsKnownRow root before row → IsKnownRow root after row
  known_kept row k = record { word = k.word; n = k.n; known = keeps k.word k.n k.known; some = k.some; is = k.is }

  captured_kept : (aside : List Entry) (id : List ℕ) → IsCaptured root before rows aside id → IsCaptured root after rows aside id
  captured_kept aside id c = record {
    position = position_kept id c.position;
    covered = c.covered;
  }

  doomed_kept : (id : List ℕ) → IsDoomed root before rows id → IsDoomed root after rows id
  doomed_kept id d = record { word = d.word; n = d.n; known = keeps d.word d.n d.known; i = d.i; low = d.low; high = d.high; is = d.is }

  pub numbers_kept : (ecoc aside : List Entry) (captured doomed : List (List ℕ)) → IndexStands root before rows ecoc aside captured doomed
      → IndexStands root after rows ecoc aside captured doomed
  numbers_kept ecoc aside captured doomed stand = record {
    rows_stand = rows_kept;
    ecoc_known = each_weaker (IsKnownRow root before) (IsKnownRow root after) known_kept ecoc stand.ecoc_known;
    aside_known = each_weaker (IsKnownRow root before) (IsKnownRow root after) known_kept aside stand.aside_known;
    covered = λ word n known less. ⊎_elim (λ (old : get before word ≡ Some n). stand.covered word n old less)
        (λ (new : (get before word ≡ None) × (n ≡ 0)). absurd (omega (arith, new.1)))
        (comes word n known);
    are_captured = each_weaker (IsCaptured root before rows aside) (IsCaptured root after rows aside) (captured_kept aside) captured stand.are_captured;
    are_doomed = each_weaker (IsDoomed root before rows) (IsDoomed root after rows) doomed_kept doomed stand.are_doomed;
  }

-- ---- a word that is learned
module _ (numbers : Numbers) (word : Word) where
  learned_known : contains_key numbers word ≡ true → learned numbers word ≡ numbers
  learned_known there = cond-true (contains_key numbers word) numbers (insert numbers word 0) there

  learned_new : contains_key numbers word ≡ false → learned numbers word ≡ insert numbers word 0
  learned_new new = cond-false (contains_key numbers word) numbers (insert numbers word 0) new

  no_number : (o : Option ℕ) → is_some o ≡ false → o ≡ None
  no_number None none = refl
  no_number (Some n) none = absurd (cc)

  learned_keeps : (other : Word) (n : ℕ) → get numbers other ≡ Some n → get (learned numbers word) other ≡ Some n
  learned_keeps other n known = ⊎_elim
      (λ (there : contains_key numbers word ≡ true). ap (λ m. get m other) (learned_known there) ∙ known)
      (λ (new : contains_key numbers word ≡ false). ⊎_elim
      (λ (same : other ≡ word). absurd (none_some (get numbers other) n (ap (get numbers) same ∙ no_number (get numbers word) new) known))
      (λ (apart : other ≡ word → ⊥). ap (λ m. get m other) (learned_new new) ∙ number_other numbers word 0 other apart ∙ known)
      (cases_word other word))
      (cases_Bool (contains_key numbers word))

  learned_comes : (other : Word) (n : ℕ) → get (learned numbers word) other ≡ Some n → (get numbers other ≡ Some n) ⊎ ((get numbers other ≡ None) × (n ≡ 0))
  learned_comes other n known = ⊎_elim
      (λ (there : contains_key numbers word ≡ true). inl (ap (λ m. get m other) (sym (learned_known there)) ∙ known))
      (λ (new : contains_key numbers word ≡ false). ⊎_elim
      (λ (same : other ≡ word).
      let put : get (learned numbers word) other ≡ Some 0 =
      ap (get (learned numbers word)) same ∙ ap (λ m. get m word) (learned_new new) ∙ number_same numbers word 0 in
      inr (ap (get numbers) same ∙ no_number (get numbers word) new, same_some n 0 (sym known ∙ put)))
      (λ (apart : other ≡ word → ⊥). inl (sym (number_other numbers word 0 other apart) ∙ ap (λ m. get m other) (sym (learned_new new)) ∙ known))
      (cases_word other word))
      (cases_Bool (contains_key numbers word))

module _ (root : ℕ → List ℕ) (rows : Rows) (ecoc aside : List Entry) (captured doomed : List (List ℕ)) where
  pub learned_stands : (numbers : Numbers) (word : Word) → IsFree root (learned numbers word) → IndexStands root numbers rows ecoc aside captured doomed
      → IndexStands root (learned numbers word) rows ecoc aside captured doomed
  learned_stands numbers word free stand =
      numbers_kept root numbers (learned numbers word) free (learned_keeps numbers word) (learned_comes numbers word) rows stand.rows_stand ecoc aside captured doomed stand

  pub all_learned_stand : (words : List Word) (numbers : Numbers) → IsFree root (all_learned numbers words) → IndexStands root numbers rows ecoc aside captured doomed
      → IndexStands root (all_learned numbers words) rows ecoc aside captured doomed
  all_learned_stand [] numbers free stand = stand
  all_learned_stand (word ∷ words) numbers free stand =
      all_learned_stand words (learned numbers word) free
      (learned_stands numbers word (free_before root (learned numbers word) (all_learned (learned numbers word) words) (later_all_learned words (learned numbers word)) free) stand)

-- ---- a word is indexed once more
module _ (root : ℕ → List ℕ) (numbers : Numbers) (word : Word) (n : ℕ) (known : get numbers word ≡ Some n)
    (free : IsFree root numbers) (rows : Rows) (was : RowsStand root numbers rows) where
  abbrev token : Word → List ℕ
  token one = row_token root one

  abbrev more : Numbers
  more = insert numbers word (n + 1)

  abbrev id : List ℕ
  id = id_of Position (token word) (n + 1)

  abbrev after : Rows
  after = insert rows id None

  same : SameBut id rows after
  same = inserted_but rows id None

  -- the place is no other position's, and no anchor's
  anchor_same : (other : Word) (k i : ℕ) → get numbers other ≡ Some k → i ≤ 2 * k + 2 → get after (id_of Anchor (token other) i) ≡ get rows (id_of Anchor (token other) i)
  anchor_same other k i knows high = same.at (id_of Anchor (token other) i)
      (λ met. position_no_anchor root numbers free word other n k (n + 1) i known knows (omega arith) (omega arith) high (sym met))

  position_same : (other : Word) (k i : ℕ) → get numbers other ≡ Some k → 1 ≤ i → i ≤ k → get after (id_of Position (token other) i) ≡ get rows (id_of Position (token other) i)
  position_same other k i knows low high = same.at (id_of Position (token other) i)
      (λ met.
      let one = two_positions root numbers free other word k n i (n + 1) knows known low (omega arith) (omega arith) (omega arith) met in
      let number = one_number root numbers free other word k n knows known one.word in
      omega (arith, one.number, number, high))

  kept_shape : (other : Word) (k m : ℕ) → get numbers other ≡ Some k → k ≤ m → shape after (token other) m ≡ shape rows (token other) k
  kept_shape other k m knows less = unaffected root numbers free rows after was other k knows (λ i high. anchor_same other k i knows high) m less

  -- a known word has the number that it had, or one more
  pub record IsMore (other : Word) (k : ℕ) : Type 0 where
    pub m : ℕ
    pub before : get numbers other ≡ Some m
    pub less : m ≤ k
    pub most : k ≤ m + 1
    pub only : m < k → other ≡ word

  word_more : get more word ≡ Some (n + 1)
  word_more = number_same numbers word (n + 1)

  was_there : (other : Word) (k : ℕ) → get more other ≡ Some k → IsMore other k
  was_there other k knows = ⊎_elim
      (λ (equal : other ≡ word).
      let one : k ≡ n + 1 = same_some k (n + 1) (sym knows ∙ ap (get more) equal ∙ word_more) in
      record { m = n; before = ap (get numbers) equal ∙ known; less = omega arith; most = omega arith; only = λ _. equal })
      (λ (apart : other ≡ word → ⊥).
      record { m = k; before = sym (number_other numbers word (n + 1) other apart) ∙ knows; less = omega arith; most = omega arith; only = λ less. absurd (omega arith) })
      (cases_word other word)

  pub record Goes (other : Word) (k : ℕ) : Type 0 where
    pub m : ℕ
    pub now : get more other ≡ Some m
    pub less : k ≤ m

  goes_on : (other : Word) (k : ℕ) → get numbers other ≡ Some k → Goes other k
  goes_on other k knows = ⊎_elim
      (λ (equal : other ≡ word).
      let one : k ≡ n = one_number root numbers free other word k n knows known equal in
      record { m = n + 1; now = ap (get more) equal ∙ word_more; less = omega arith })
      (λ (apart : other ≡ word → ⊥). record { m = k; now = number_other numbers word (n + 1) other apart ∙ knows; less = omega arith })
      (cases_word other word)

  shape_more : (other : Word) (k : ℕ) (knows : get more other ≡ Some k) → shape after (token other) k ≡ shape rows (token other) (was_there other k knows).m
  shape_more other k knows = kept_shape other (was_there other k knows).m k (was_there other k knows).before (was_there other k knows).less

  shape_goes : (other : Word) (k : ℕ) (knows : get numbers other ≡ Some k) → shape after (token other) (goes_on other k knows).m ≡ shape rows (token other) k
  shape_goes other k knows = kept_shape other k (goes_on other k knows).m knows (goes_on other k knows).less

  abbrev position_on : (q : List ℕ) → IsPosition root numbers q → IsPosition root more q
  position_on q p =
      let on = goes_on p.word p.n p.known in
      record { word = p.word; n = on.m; known = on.now; i = p.i; low = p.low; high = omega (arith, p.high, on.less); is = p.is }

  named_on : (q : List ℕ) (row : Row) → IsNamed root numbers rows q row → IsNamed root more after q row
  named_on q None p = position_on q p
  named_on q (Some value) a =
      let on = goes_on a.word a.n a.known in
      let is = shape_goes a.word a.n a.known in
      record {
        word = a.word;
        n = on.m;
        known = on.now;
        some = omega (arith, a.some, on.less);
        i = a.i;
        high = omega (arith, a.high, ap (λ (s : Shape). s.apos) is, ap (λ (s : Shape). s.hop) is);
        is = a.is;
      }

  named_here : (row : Row) → get after id ≡ Some row → IsNamed root more after id row
  named_here None there = record { word = word; n = n + 1; known = word_more; i = n + 1; low = omega arith; high = omega arith; is = refl }
  named_here (Some value) there = let met : Some None ≡ Some (Some value) = sym (inserted_here rows id None) ∙ there in absurd (cc)

  positions_more : (other : Word) (k : ℕ) → get more other ≡ Some k → (i : ℕ) → (shape after (token other) k).base < i → i ≤ k → has after (id_of Position (token other) i) ≡ true
  positions_more other k knows i less high =
      let was_so = was_there other k knows in
      let base = ap (λ (s : Shape). s.base) (shape_more other k knows) in
      ⊎_elim
      (λ (last : i ≡ was_so.m + 1).
      let equal : other ≡ word = was_so.only (omega arith) in
      let number : was_so.m ≡ n = one_number root numbers free other word was_so.m n was_so.before known equal in
      let place : id_of Position (token other) i ≡ id = (λ j. id_of Position (token (equal j)) (last j)) ∙ ap (λ m. id_of Position (token word) (m + 1)) number in
      ap (has after) place ∙ ap is_some (inserted_here rows id None))
      (λ (no_last : i ≡ was_so.m + 1 → ⊥).
      ap is_some (position_same other was_so.m i was_so.before (omega arith) (omega (arith, was_so.most)))
      ∙ was.positions other was_so.m was_so.before i (omega arith) (omega (arith, was_so.most)))
      (cases_eq i (was_so.m + 1))

  rows_indexed : RowsStand root more after
  rows_indexed = record {
    anchors = λ other k knows. subst (λ (s : Shape). s.apos + s.hop ≤ s.base) (sym (shape_more other k knows)) (was.anchors other (was_there other k knows).m (was_there other k knows).before);
    counted = λ other k knows.
        let base = ap (λ (s : Shape). s.base) (shape_more other k knows) in
        omega (arith, base, was.counted other (was_there other k knows).m (was_there other k knows).before, (was_there other k knows).less);
    positions = positions_more;
    named = λ q row there. ⊎_elim
        (λ (here : q ≡ id). subst (λ p. IsNamed root more after p row) (sym here) (named_here row (ap (get after) (sym here) ∙ there)))
        (λ (apart : q ≡ id → ⊥). named_on q row (was.named q row (sym (same.at q apart) ∙ there)))
        (cases_id q id);
  }

  known_on : (row : Entry) → IsKnownRow root numbers row → IsKnownRow root more row
  known_on row k =
      let on = goes_on k.word k.n k.known in
      record { word = k.word; n = on.m; known = on.now; some = omega (arith, k.some, on.less); is = k.is }

  captured_on : (aside : List Entry) (q : List ℕ) → IsCaptured root numbers rows aside q → IsCaptured root more after aside q
  captured_on aside q c = record {
    position = position_on q c.position;
    covered = ⊎_elim
        (λ (counted_by : c.position.i ≤ (shape rows (token c.position.word) c.position.n).base).
        inl (omega (arith, counted_by, ap (λ (s : Shape). s.base) (shape_goes c.position.word c.position.n c.position.known))))
        (λ (row : HasRow root c.position.word aside). inr row)
        c.covered;
  }

  doomed_on : (q : List ℕ) → IsDoomed root numbers rows q → IsDoomed root more after q
  doomed_on q d =
      let on = goes_on d.word d.n d.known in
      record {
        word = d.word;
        n = on.m;
        known = on.now;
        i = d.i;
        low = d.low;
        high = omega (arith, d.high, ap (λ (s : Shape). s.apos) (shape_goes d.word d.n d.known));
        is = d.is;
      }

  has_row-front : (one : Word) (xs ys : List Entry) → HasRow root one xs → HasRow root one (xs ++ ys)
  has_row-front one [] ys h = absurd h
  has_row-front one (x ∷ xs) ys h = ⊎_elim (λ (here : IsRowOf root one x). inl here) (λ (behind : HasRow root one xs). inr (has_row-front one xs ys behind)) h

  has_row-last : (one : Word) (xs : List Entry) (row : Entry) → IsRowOf root one row → HasRow root one (xs ++ row ∷ [])
  has_row-last one [] row is = inl is
  has_row-last one (x ∷ xs) row is = inr (has_row-last one xs row is)

  pub index_one : (ecoc aside : List Entry) (captured doomed : List (List ℕ)) (row : Entry) → IsRowOf root word row → IndexStands root numbers rows ecoc aside captured doomed
      → IndexStands root more after (ecoc ++ row ∷ []) aside captured doomed
  index_one ecoc aside captured doomed row is stand = record {
    rows_stand = rows_indexed;
    ecoc_known = each_append (IsKnownRow root more) ecoc (row ∷ []) (each_weaker (IsKnownRow root numbers) (IsKnownRow root more) known_on ecoc stand.ecoc_known)
        (record { word = word; n = n + 1; known = word_more; some = omega arith; is = is }, tt);
    aside_known = each_weaker (IsKnownRow root numbers) (IsKnownRow root more) known_on aside stand.aside_known;
    covered = λ other k knows less. ⊎_elim
        (λ (equal : other ≡ word). inl (has_row-last other ecoc row (subst (λ w. IsRowOf root w row) (sym equal) is)))
        (λ (apart : other ≡ word → ⊥).
        let was_so = was_there other k knows in
        let number : was_so.m ≡ k = ⊎_elim (λ (equal : was_so.m ≡ k). equal) (λ (differ : was_so.m ≡ k → ⊥). absurd (apart (was_so.only (omega (arith, was_so.less))))) (cases_eq was_so.m k) in
        let base = ap (λ (s : Shape). s.base) (shape_more other k knows) in
        ⊎_elim (λ (front : HasRow root other ecoc). inl (has_row-front other ecoc (row ∷ []) front)) (λ (in_aside : HasRow root other aside). inr in_aside)
        (stand.covered other was_so.m was_so.before (omega arith)))
        (cases_word other word);
    are_captured = each_weaker (IsCaptured root numbers rows aside) (IsCaptured root more after aside) (captured_on aside) captured stand.are_captured;
    are_doomed = each_weaker (IsDoomed root numbers rows) (IsDoomed root more after) doomed_on doomed stand.are_doomed;
  }

  -- the position's row is new
  pub is_new : has rows id ≡ false
  is_new = no_position root numbers free rows was word n known (n + 1) (omega arith) (omega arith)

-- raising a word is learning it, and then one more
pub raised_is : (numbers : Numbers) (word : Word) (n : ℕ) → get (learned numbers word) word ≡ Some n → raised numbers word ≡ insert (learned numbers word) word (n + 1)
raised_is numbers word n known =
    same_map words_total words_exact (raised numbers word) (insert (learned numbers word) word (n + 1)) (λ q. ⊎_elim
    (λ (same : q ≡ word).
    ap (get (raised numbers word)) same ∙ number_same numbers word (unwrap_or (get numbers word) 0 + 1) ∙ ap (λ m. Some (m + 1)) number
    ∙ sym (number_same (learned numbers word) word (n + 1)) ∙ ap (get (insert (learned numbers word) word (n + 1))) (sym same))
    (λ (apart : q ≡ word → ⊥).
    number_other numbers word (unwrap_or (get numbers word) 0 + 1) q apart ∙ sym (other_learned numbers word q apart)
    ∙ sym (number_other (learned numbers word) word (n + 1) q apart))
    (cases_word q word))
  where
    number : unwrap_or (get numbers word) 0 ≡ n
    number = ⊎_elim
        (λ (old : get numbers word ≡ Some n). ap (λ (o : Option ℕ). unwrap_or o 0) old)
        (λ (new : (get numbers word ≡ None) × (n ≡ 0)). ap (λ (o : Option ℕ). unwrap_or o 0) new.0 ∙ sym new.1)
        (learned_comes numbers word word n known)
