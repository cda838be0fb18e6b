-- The relation is kept by each unit of maintenance.
use Rattle.std.proofs.Common.{◌≡◌, ℕ, zero, suc, ◌+◌, ◌-◌, ◌*◌, ◌%◌, ◌^◌, ◌<◌, ◌≤◌, ◌&&◌, ◌==◌, true, false, List, [], ◌∷◌, ◌++◌, length, Some, sym, ap, ◌∙◌, subst, arith, ◌⊎◌, inl, inr, ⊎_elim}
use Rattle.std.proofs.lemmas.Bool.{cond_both, cond-true, cond-false, and_parts, and_from, eqb-true, ne_eqb, eq-eqb, cases_eq, not-true, not_from_false, false_from_ne_true}
use Rattle.std.specs.Prelude.{not}
use Rattle.std.specs.List.{AllByRecursion}
use Rattle.std.specs.FinMap.{get, insert}
use Rattle.qe_base.specs.declared.maintenance.Count.{Count}
use Rattle.qe_tokens.specs.Labels.{row_token}
use Rattle.qe_tokens.specs.declared.words.Word.{Word}
use Rattle.qe_esc.specs.Rows.{Row, Rows, has}
use Rattle.qe_esc.specs.Changes.{with_row}
use Rattle.qe_esc.specs.Identifiers.{id_of}
use Rattle.qe_esc.specs.Pairs.{null_pair, base_of, sealed_pair}
use Rattle.qe_esc.specs.declared.key.RowKind.TheVariants.{Anchor}
use Rattle.qe_esc.proofs.ChangesLemmas.{with_row-new}
use Rattle.qe_ecoc.specs.declared.rows.Entry.{Entry}
use Rattle.qe_protocol.specs.Counting.{IsCounted, counted}
use Rattle.qe_protocol.specs.Units.{compacted, cleaned, is_cleaned, last_anchor, anchors_after, is_mismatch}
use Rattle.qe_labels.specs.Numbers.{Numbers}
use Rattle.qe_labels.specs.Laws.{IsFree}
use Rattle.qe_relation.specs.Shape.{Shape, shape, due_count}
use Rattle.qe_relation.specs.Stands.{IsRowOf, HasRow, RowsStand, IsCaptured, IsDoomed, IndexStands}
use Rattle.qe_relation.proofs.PlaceLemmas.{id-wraps, each_weaker, each_append}
use Rattle.qe_relation.proofs.ShapeLemmas.{IsShape, has_shape, base_none, null_missing_pair}
use Rattle.qe_relation.proofs.FreeLemmas.{numbers_fit, one_token, one_number, one_shape, no_anchor, null_missing, count_is, number_is}
use Rattle.qe_relation.proofs.ChangeLemmas.{Moved, moved_none}
use Rattle.qe_relation.proofs.RowUnitLemmas.{anchor_written, anchor_base, null_written, null_shape}

module _ (root : ℕ → List ℕ) (numbers : Numbers) (free : IsFree root numbers) where
  abbrev tok : Word → List ℕ
  tok word = row_token root word

  -- what is captured and doomed stays so where rows have moved
  module _ (before after : Rows) (moved : Moved root numbers before after) where
    captured_moved : (aside : List Entry) (id : List ℕ) → IsCaptured root numbers before aside id → IsCaptured root numbers after aside id
    captured_moved aside id c = record {
      position = c.position;
      covered = ⊎_elim
          (λ (counted_by : c.position.i ≤ (shape before (tok c.position.word) c.position.n).base). inl (omega (arith, counted_by, moved.base c.position.word c.position.n c.position.known)))
          (λ (row : HasRow root c.position.word aside). inr row)
          c.covered;
    }

    doomed_moved : (id : List ℕ) → IsDoomed root numbers before id → IsDoomed root numbers after id
    doomed_moved id d =
        record { word = d.word; n = d.n; known = d.known; i = d.i; low = d.low; high = omega (arith, d.high, moved.apos d.word d.n d.known); is = d.is }

    pub lists_moved : (ecoc aside : List Entry) (captured doomed : List (List ℕ)) → IndexStands root numbers before ecoc aside captured doomed
        → IndexStands root numbers after ecoc aside captured doomed
    lists_moved ecoc aside captured doomed stand = record {
      rows_stand = moved.stand;
      ecoc_known = stand.ecoc_known;
      aside_known = stand.aside_known;
      covered = λ word n known less. stand.covered word n known (omega (arith, less, moved.base word n known));
      are_captured = each_weaker (IsCaptured root numbers before aside) (IsCaptured root numbers after aside) (captured_moved aside) captured stand.are_captured;
      are_doomed = each_weaker (IsDoomed root numbers before) (IsDoomed root numbers after) doomed_moved doomed stand.are_doomed;
    }

  -- two words of one row are one
  one_row : (v w : Word) (n m : ℕ) → get numbers v ≡ Some n → get numbers w ≡ Some m → (row : Entry) → IsRowOf root v row → IsRowOf root w row → v ≡ w
  one_row v w n m known_v known_w row is_v is_w = one_token root numbers free v w n m known_v known_w (sym is_v.opens ∙ is_w.opens)

  -- a row aside is handled, and all positions of its word are counted
  module _ (rows after : Rows) (ecoc rest : List Entry) (captured doomed more : List (List ℕ)) (row : Entry)
      (stand : IndexStands root numbers rows ecoc (row ∷ rest) captured doomed) (word : Word) (n : ℕ) (known : get numbers word ≡ Some n) (is : IsRowOf root word row)
      (moved : Moved root numbers rows after) (whole : (shape after (tok word) n).base ≡ n) (new : AllByRecursion (IsDoomed root numbers after) more) where
    covered_rest : (other : Word) (k : ℕ) → get numbers other ≡ Some k → (shape after (tok other) k).base < k → HasRow root other ecoc ⊎ HasRow root other rest
    covered_rest other k knows less = ⊎_elim
        (λ (in_ecoc : HasRow root other ecoc). inl in_ecoc)
        (λ (aside : IsRowOf root other row ⊎ HasRow root other rest). ⊎_elim
        (λ (same : IsRowOf root other row).
        let equal : other ≡ word = one_row other word k n knows known row same is in
        let number : k ≡ n = one_number root numbers free other word k n knows known equal in
        let base = ap (λ (x : Shape). x.base) (one_shape root numbers free after other word k n equal number) in
        absurd (omega arith))
        (λ (behind : HasRow root other rest). inr behind)
        aside)
        (stand.covered other k knows (omega (arith, less, moved.base other k knows)))

    captured_rest : (id : List ℕ) → IsCaptured root numbers rows (row ∷ rest) id → IsCaptured root numbers after rest id
    captured_rest id c = record {
      position = c.position;
      covered = ⊎_elim
          (λ (counted_by : c.position.i ≤ (shape rows (tok c.position.word) c.position.n).base). inl (omega (arith, counted_by, moved.base c.position.word c.position.n c.position.known)))
          (λ (aside : IsRowOf root c.position.word row ⊎ HasRow root c.position.word rest). ⊎_elim
          (λ (same : IsRowOf root c.position.word row).
          let equal : c.position.word ≡ word = one_row c.position.word word c.position.n n c.position.known known row same is in
          let number : c.position.n ≡ n = one_number root numbers free c.position.word word c.position.n n c.position.known known equal in
          let base = ap (λ (x : Shape). x.base) (one_shape root numbers free after c.position.word word c.position.n n equal number) in
          inl (omega (arith, base, whole, number, c.position.high)))
          (λ (behind : HasRow root c.position.word rest). inr behind)
          aside)
          c.covered;
    }

    pub row_finished : IndexStands root numbers after ecoc rest captured (doomed ++ more)
    row_finished = record {
      rows_stand = moved.stand;
      ecoc_known = stand.ecoc_known;
      aside_known = stand.aside_known.1;
      covered = covered_rest;
      are_captured = each_weaker (IsCaptured root numbers rows (row ∷ rest)) (IsCaptured root numbers after rest) captured_rest captured stand.are_captured;
      are_doomed = each_append (IsDoomed root numbers after) doomed more
          (each_weaker (IsDoomed root numbers rows) (IsDoomed root numbers after) (doomed_moved rows after moved) doomed stand.are_doomed) new;
    }

  -- ---- what a search for the row's token found
  module _ (rows : Rows) (stand : RowsStand root numbers rows) (word : Word) (n : ℕ) (known : get numbers word ≡ Some n) (count : Count)
      (counts : IsCounted rows (tok word) count) where
    abbrev s : Shape
    s = shape rows (tok word) n

    of_shape : IsShape rows (tok word) s
    of_shape = has_shape rows (tok word) n

    last : s.apos + s.hop ≤ s.base
    last = stand.anchors word n known

    base_le : s.base ≤ n
    base_le = stand.counted word n known

    fits : 2 * n + 2 < 2 ^ 64
    fits = numbers_fit root numbers free word n known

    due : count ≡ due_count rows (tok word) n
    due = count_is root numbers free rows stand word n known count counts.searched counts.is_true

    pub hop_found : count.hop ≡ s.hop
    hop_found = ap (λ (c : Count). c.hop) due

    pub positions_found : count.positions ≡ n - s.base
    positions_found = ap (λ (c : Count). c.positions) due

    pub number_found : counted rows count ≡ n
    number_found = number_is root numbers free rows stand word n known count counts.searched counts.is_true

    null_found : (null_pair rows count.token).0 ≡ s.apos
    null_found = ap (λ token. (null_pair rows token).0) counts.searched ∙ ap (λ (p : ℕ × ℕ). p.0) of_shape.null

    last_found : last_anchor rows count ≡ s.apos + s.hop
    last_found =
        let whole : (s.apos + s.hop) % 2 ^ 64 ≡ s.apos + s.hop = omega (arith, last, base_le, fits) in
        (λ i. (null_found i + hop_found i) % 2 ^ 64) ∙ whole

    -- the identifier of the next anchor
    next_found : id_of Anchor count.token ((last_anchor rows count + 1) % 2 ^ 64) ≡ id_of Anchor (tok word) (s.apos + (s.hop + 1))
    next_found =
        let one : s.apos + s.hop + 1 ≡ s.apos + (s.hop + 1) = omega (arith, last, base_le, fits) in
        id-wraps Anchor count.token (last_anchor rows count + 1)
        ∙ (λ i. id_of Anchor (counts.searched i) (last_found i + 1))
        ∙ ap (id_of Anchor (tok word)) one

    -- a compaction
    compacted_idle : s.base ≡ n → (nonce : List ℕ) → compacted rows count nonce ≡ rows
    compacted_idle whole nonce =
        cond-true (count.positions == 0) rows
        (with_row rows (id_of Anchor count.token ((last_anchor rows count + 1) % 2 ^ 64)) (Some (sealed_pair count.token nonce 0 (counted rows count))))
        (eq-eqb count.positions 0 (omega (arith, last, base_le, fits, positions_found)))

    compacted_new : s.base < n → (nonce : List ℕ)
        → compacted rows count nonce ≡ insert rows (id_of Anchor (tok word) (s.apos + (s.hop + 1))) (Some (sealed_pair (tok word) nonce 0 n))
    compacted_new less nonce =
        let next = id_of Anchor count.token ((last_anchor rows count + 1) % 2 ^ 64) in
        let value : Row = Some (sealed_pair count.token nonce 0 (counted rows count)) in
        let none : has rows next ≡ false =
        ap (has rows) next_found ∙ no_anchor root numbers free rows stand word n known (s.apos + (s.hop + 1)) (omega (arith, last, base_le, fits)) (omega (arith, last, base_le, fits)) in
        cond-false (count.positions == 0) rows (with_row rows next value) (ne_eqb count.positions 0 (λ zero_is. omega (arith, last, base_le, fits, positions_found)))
        ∙ sym (with_row-new rows next value none)
        ∙ (λ i. insert rows (next_found i) (Some (sealed_pair (counts.searched i) nonce 0 (number_found i))))

    pub compact_moves : (nonce : List ℕ) → length nonce ≡ 16 → Moved root numbers rows (compacted rows count nonce) × ((shape (compacted rows count nonce) (tok word) n).base ≡ n)
    compact_moves nonce long = ⊎_elim
        (λ (whole : s.base ≡ n). subst (λ (after : Rows). Moved root numbers rows after × ((shape after (tok word) n).base ≡ n)) (sym (compacted_idle whole nonce))
        (moved_none root numbers rows stand, whole))
        (λ (apart : s.base ≡ n → ⊥).
        let less : s.base < n = omega (arith, last, base_le, fits) in
        subst (λ (after : Rows). Moved root numbers rows after × ((shape after (tok word) n).base ≡ n)) (sym (compacted_new less nonce))
        (anchor_written root numbers free rows stand word n known less nonce long, anchor_base root numbers free rows stand word n known less nonce long))
        (cases_eq s.base n)

    -- a cleanup
    cleaned_new : (nonce : List ℕ) → insert rows (id_of Anchor count.token 0) (Some (sealed_pair count.token nonce (last_anchor rows count) (counted rows count)))
        ≡ insert rows (id_of Anchor (tok word) 0) (Some (sealed_pair (tok word) nonce (s.apos + s.hop) n))
    cleaned_new nonce = λ i. insert rows (id_of Anchor (counts.searched i) 0) (Some (sealed_pair (counts.searched i) nonce (last_found i) (number_found i)))

    -- a cleanup leaves a shape without an anchor behind those that it takes out, and all counted
    pub record IsClean (after : Rows) : Type 0 where
      pub moved : Moved root numbers rows after
      pub apos : (shape after (tok word) n).apos ≡ s.apos + s.hop
      pub base : (shape after (tok word) n).base ≡ n

    clean_new : 1 ≤ n → (nonce : List ℕ) → length nonce ≡ 16 → IsClean (insert rows (id_of Anchor (tok word) 0) (Some (sealed_pair (tok word) nonce (s.apos + s.hop) n)))
    clean_new some nonce long =
        let is = null_shape root numbers free rows stand word n known some nonce long in
        record {
          moved = null_written root numbers free rows stand word n known some nonce long;
          apos = ap (λ (x : Shape). x.apos) is;
          base = ap (λ (x : Shape). x.base) is;
        }

    clean_stands : is_cleaned rows count ≡ true → IsClean rows
    clean_stands is =
        let pair = null_pair rows count.token in
        let parts = and_parts (pair.0 == last_anchor rows count) (pair.1 == counted rows count)
        (and_parts (has rows (id_of Anchor count.token 0)) (pair.0 == last_anchor rows count && (pair.1 == counted rows count)) is).1 in
        let first : pair.0 ≡ last_anchor rows count = eqb-true pair.0 (last_anchor rows count) parts.0 in
        let second : pair.1 ≡ counted rows count = eqb-true pair.1 (counted rows count) parts.1 in
        let no_hop : s.hop ≡ 0 = omega (arith, last, base_le, fits, first, null_found, last_found) in
        let null_second : pair.1 ≡ (null_pair rows (tok word)).1 = ap (λ token. (null_pair rows token).1) counts.searched in
        let base : s.base ≡ (null_pair rows (tok word)).1 = sym of_shape.base ∙ ap (base_of rows (tok word)) no_hop ∙ base_none rows (tok word) in
        record {
          moved = moved_none root numbers rows stand;
          apos = omega (arith, last, base_le, fits);
          base = omega (arith, last, base_le, fits, base, null_second, second, number_found);
        }

    pub cleanup_cleans : 1 ≤ n → (nonce : List ℕ) → length nonce ≡ 16 → IsClean (cleaned rows count nonce)
    cleanup_cleans some nonce long =
        cond_both (is_cleaned rows count) rows
        (insert rows (id_of Anchor count.token 0) (Some (sealed_pair count.token nonce (last_anchor rows count) (counted rows count)))) IsClean
        clean_stands
        (λ _. subst IsClean (sym (cleaned_new nonce)) (clean_new some nonce long))

    -- the anchors that a cleanup dooms
    doomed_by : (after : Rows) → (shape after (tok word) n).apos ≡ s.apos + s.hop → (more : ℕ) → more ≤ s.hop
        → AllByRecursion (IsDoomed root numbers after) (anchors_after count.token (null_pair rows count.token).0 more)
    doomed_by after apos zero within = tt
    doomed_by after apos (suc more) within =
        each_append (IsDoomed root numbers after) (anchors_after count.token (null_pair rows count.token).0 more)
        (id_of Anchor count.token (((null_pair rows count.token).0 + suc more) % 2 ^ 64) ∷ [])
        (doomed_by after apos more (omega (arith, last, base_le, fits))) (
          record {
            word = word;
            n = n;
            known = known;
            i = s.apos + suc more;
            low = omega (arith, last, base_le, fits);
            high = omega (arith, last, base_le, fits);
            is = id-wraps Anchor count.token ((null_pair rows count.token).0 + suc more) ∙ (λ i. id_of Anchor (counts.searched i) (null_found i + suc more));
          },
          tt,
        )

    pub doomed_found : (after : Rows) → (shape after (tok word) n).apos ≡ s.apos + s.hop
        → AllByRecursion (IsDoomed root numbers after) (anchors_after count.token (null_pair rows count.token).0 count.hop)
    doomed_found after apos = doomed_by after apos count.hop (omega (arith, last, base_le, fits, hop_found))

    -- a mismatch comes exactly where the word was never indexed
    no_null_here : has rows (id_of Anchor (tok word) 0) ≡ false → has rows (id_of Anchor count.token 0) ≡ false
    no_null_here none = ap (λ token. has rows (id_of Anchor token 0)) counts.searched ∙ none

    pub mismatch_none : n ≡ 0 → is_mismatch rows count ≡ true
    mismatch_none none =
        let no_null : has rows (id_of Anchor count.token 0) ≡ false = no_null_here (null_missing root numbers free rows stand word n known none) in
        and_from (not (has rows (id_of Anchor count.token 0))) (count.hop == 0 && (count.positions == 0)) (not_from_false (has rows (id_of Anchor count.token 0)) no_null)
        (and_from (count.hop == 0) (count.positions == 0) (eq-eqb count.hop 0 (omega (arith, last, base_le, fits, hop_found))) (eq-eqb count.positions 0 (omega (arith, last, base_le, fits, positions_found))))

    pub mismatch_some : 1 ≤ n → is_mismatch rows count ≡ false
    mismatch_some some = false_from_ne_true (is_mismatch rows count) (λ is.
        let parts = and_parts (not (has rows (id_of Anchor count.token 0))) (count.hop == 0 && (count.positions == 0)) is in
        let both = and_parts (count.hop == 0) (count.positions == 0) parts.1 in
        let no_null : has rows (id_of Anchor (tok word) 0) ≡ false =
        ap (λ token. has rows (id_of Anchor token 0)) (sym counts.searched) ∙ not-true (has rows (id_of Anchor count.token 0)) parts.0 in
        let no_hop : s.hop ≡ 0 = omega (arith, last, base_le, fits, eqb-true count.hop 0 both.0, hop_found) in
        let base : s.base ≡ 0 =
        sym of_shape.base ∙ ap (base_of rows (tok word)) no_hop ∙ base_none rows (tok word) ∙ ap (λ (p : ℕ × ℕ). p.1) (null_missing_pair rows (tok word) no_null) in
        omega (arith, last, base_le, fits, eqb-true count.positions 0 both.1, positions_found, base))
