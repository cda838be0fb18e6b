-- The rows after a unit: an anchor or a null anchor is written, a position or an anchor taken out.
use Rattle.std.proofs.Common.{◌≡◌, ℕ, ◌+◌, ◌*◌, ◌^◌, ◌<◌, ◌≤◌, true, false, List, length, None, Some, refl, sym, ap, ◌∙◌, subst, arith, ◌⊎◌, inl, inr, ⊎_elim}
use Rattle.std.proofs.lemmas.Bool.{cases_eq}
use Rattle.std.specs.Prelude.{is_some}
use Rattle.std.specs.FinMap.{get, insert, remove}
use Rattle.qe_seal.proofs.EncipheredLemmas.{deciphered_pair-enciphered_pair}
use Rattle.qe_tokens.specs.Labels.{row_token}
use Rattle.qe_tokens.specs.Tokens.{esc_value_of}
use Rattle.qe_tokens.specs.declared.words.LabelKind.TheVariants as l
use Rattle.qe_tokens.specs.declared.words.Word.{Word}
use Rattle.qe_esc.specs.Rows.{Row, Rows, has}
use Rattle.qe_esc.specs.Identifiers.{id_of}
use Rattle.qe_esc.specs.Pairs.{pair_of, null_pair, sealed_pair}
use Rattle.qe_esc.specs.declared.key.RowKind.TheVariants.{Position, Anchor}
use Rattle.qe_labels.specs.Numbers.{Numbers}
use Rattle.qe_labels.specs.Laws.{IsFree}
use Rattle.qe_relation.specs.Shape.{Shape, shape}
use Rattle.qe_relation.specs.Stands.{IsNamed, RowsStand}
use Rattle.qe_relation.proofs.PlaceLemmas.{inserted_here, inserted_but, removed_here, removed_but}
use Rattle.qe_relation.proofs.ShapeLemmas.{IsShape, IsShape-kept, has_shape, shape_is, null_is, base_none, base_some}
use Rattle.qe_relation.proofs.FreeLemmas.{position_label, anchor_label, two_positions, two_anchors, position_no_anchor, numbers_fit, no_anchor}
use Rattle.qe_relation.proofs.ChangeLemmas.{Moved, Onward, changed}

pair_opens : (token nonce : List ℕ) (first second : ℕ) → length nonce ≡ 16 → first < 2 ^ 64 → second < 2 ^ 64
    → pair_of token (Some (Some (sealed_pair token nonce first second))) ≡ (first, second)
pair_opens token nonce first second long first_fits second_fits =
    deciphered_pair-enciphered_pair (esc_value_of token) nonce first second long first_fits second_fits

module _ (root : ℕ → List ℕ) (numbers : Numbers) (free : IsFree root numbers) (rows : Rows) (stand : RowsStand root numbers rows)
    (word : Word) (n : ℕ) (known : get numbers word ≡ Some n) where
  abbrev token : List ℕ
  token = row_token root word

  abbrev s : Shape
  s = shape rows token n

  of_shape : IsShape rows token s
  of_shape = has_shape rows token n

  last : s.apos + s.hop ≤ s.base
  last = stand.anchors word n known

  base_le : s.base ≤ n
  base_le = stand.counted word n known

  fits : 2 * n + 2 < 2 ^ 64
  fits = numbers_fit root numbers free word n known

  -- an anchor of the word isn't one of its positions
  anchor_apart : (i j : ℕ) → i ≤ 2 * n + 2 → 1 ≤ j → j ≤ 2 * n + 2 → id_of Anchor token i ≡ id_of Position token j → ⊥
  anchor_apart i j high low_j high_j met = position_no_anchor root numbers free word word n n j i known known low_j high_j high (sym met)

  other_number : (i j : ℕ) → i ≤ 2 * n + 2 → j ≤ 2 * n + 2 → (i ≡ j → ⊥) → id_of Anchor token i ≡ id_of Anchor token j → ⊥
  other_number i j high high_j apart met = apart (two_anchors root numbers free word word n n i j known known high high_j met).number

  -- the rows keep the word's shape where neither its null anchor nor an anchor in a row changes, nor the place behind them
  same_shape : (after : Rows) → ((i : ℕ) → i ≤ 2 * n + 2 → (i ≡ 0) ⊎ (s.apos < i) → get after (id_of Anchor token i) ≡ get rows (id_of Anchor token i)) → shape after token n ≡ s
  same_shape after same =
      let kept : IsShape after token s = IsShape-kept rows after token s (same 0 (omega (arith, last, base_le, fits)) (inl refl)) (λ i low high. same (s.apos + i) (omega (arith, last, base_le, fits)) (inr (omega (arith, last, base_le, fits)))) of_shape in
      let stop : has after (id_of Anchor token (s.apos + (s.hop + 1))) ≡ false =
      ap is_some (same (s.apos + (s.hop + 1)) (omega (arith, last, base_le, fits)) (inr (omega (arith, last, base_le, fits)))) ∙ no_anchor root numbers free rows stand word n known (s.apos + (s.hop + 1)) (omega (arith, last, base_le, fits)) (omega (arith, last, base_le, fits)) in
      shape_is after token n s kept (omega (arith, last, base_le, fits)) stop

  onward_same : Onward s s
  onward_same = record { apos = omega (arith, last, base_le, fits); last = omega (arith, last, base_le, fits); base = omega (arith, last, base_le, fits) }

  no_name : (after : Rows) (id : List ℕ) → get after id ≡ None → (row : Row) → get after id ≡ Some row → IsNamed root numbers after id row
  no_name after id gone row there = let met : None ≡ Some row = sym gone ∙ there in absurd (cc)

  -- a position is taken out that the last anchor counts
  pub position_taken : (i : ℕ) → 1 ≤ i → i ≤ s.base → Moved root numbers rows (remove rows (id_of Position token i))
  position_taken i low high =
      let id = id_of Position token i in
      let after = remove rows id in
      let same = removed_but rows id in
      let shape_after : shape after token n ≡ s = same_shape after (λ j small _. same.at (id_of Anchor token j) (anchor_apart j i small low (omega (arith, last, base_le, fits)))) in
      changed root numbers free rows after stand l.Position word n i known refl (position_label root numbers free word n i known low (omega (arith, last, base_le, fits))) same
      s shape_after onward_same last base_le
      (λ j more small met. let equal = two_positions root numbers free word word n n j i known known (omega (arith, last, base_le, fits)) (omega (arith, last, base_le, fits)) low (omega (arith, last, base_le, fits)) met in omega (arith, last, base_le, fits, equal.number, more, high))
      (no_name after id (removed_here rows id))

  -- an anchor is taken out that the null anchor counts
  pub anchor_taken : (i : ℕ) → 1 ≤ i → i ≤ s.apos → Moved root numbers rows (remove rows (id_of Anchor token i))
  anchor_taken i low high =
      let id = id_of Anchor token i in
      let after = remove rows id in
      let same = removed_but rows id in
      let shape_after : shape after token n ≡ s = same_shape after (λ j small where_is. same.at (id_of Anchor token j) (other_number j i small (omega (arith, last, base_le, fits))
      (λ equal. ⊎_elim (λ (null : j ≡ 0). omega (arith, last, base_le, fits)) (λ (behind : s.apos < j). omega (arith, last, base_le, fits)) where_is))) in
      changed root numbers free rows after stand l.Anchor word n i known refl (anchor_label root numbers free word n i known (omega (arith, last, base_le, fits))) same
      s shape_after onward_same last base_le
      (λ j more small met. anchor_apart i j (omega (arith, last, base_le, fits)) (omega (arith, last, base_le, fits)) (omega (arith, last, base_le, fits)) (sym met))
      (no_name after id (removed_here rows id))

  -- the next anchor is written, and counts all positions, of which the last one doesn't count all
  module _ (some : s.base < n) (nonce : List ℕ) (long : length nonce ≡ 16) where
    abbrev next : List ℕ
    next = id_of Anchor token (s.apos + (s.hop + 1))

    abbrev value : Row
    value = Some (sealed_pair token nonce 0 n)

    abbrev written : Rows
    written = insert rows next value

    abbrev t : Shape
    t = record { apos = s.apos; hop = s.hop + 1; base = n }

    stays_at : (i : ℕ) → i ≤ 2 * n + 2 → (i ≡ s.apos + (s.hop + 1) → ⊥) → get written (id_of Anchor token i) ≡ get rows (id_of Anchor token i)
    stays_at i small apart = (inserted_but rows next value).at (id_of Anchor token i) (other_number i (s.apos + (s.hop + 1)) small (omega (arith, last, base_le, fits)) apart)

    null_written_is : null_pair written token ≡ (s.apos, of_shape.cpos)
    null_written_is = null_is written token ∙ ap (pair_of token) (stays_at 0 (omega (arith, last, base_le, fits)) (λ equal. omega (arith, last, base_le, fits))) ∙ sym (null_is rows token) ∙ of_shape.null

    is_t : IsShape written token t
    is_t = record {
      cpos = of_shape.cpos;
      null = null_written_is;
      run = λ i low high. ⊎_elim
          (λ (at_last : i ≡ s.hop + 1). subst (λ j. has written (id_of Anchor token (s.apos + j)) ≡ true) (sym at_last) (ap is_some (inserted_here rows next value)))
          (λ (apart : i ≡ s.hop + 1 → ⊥). ap is_some (stays_at (s.apos + i) (omega (arith, last, base_le, fits)) (λ equal. apart (omega (arith, last, base_le, fits)))) ∙ of_shape.run i low (omega (arith, last, base_le, fits)))
          (cases_eq i (s.hop + 1));
      base =
          base_some written token s.apos (s.hop + 1) (ap (λ (p : ℕ × ℕ). p.0) null_written_is) (omega (arith, last, base_le, fits))
          ∙ ap (λ row. (pair_of token row).1) (inserted_here rows next value)
          ∙ ap (λ (p : ℕ × ℕ). p.1) (pair_opens token nonce 0 n long (omega (arith, last, base_le, fits)) (omega (arith, last, base_le, fits)));
    }

    shape_t : shape written token n ≡ t
    shape_t = shape_is written token n t is_t (omega (arith, last, base_le, fits))
        (ap is_some (stays_at (s.apos + (s.hop + 1 + 1)) (omega (arith, last, base_le, fits)) (λ equal. omega (arith, last, base_le, fits)))
        ∙ no_anchor root numbers free rows stand word n known (s.apos + (s.hop + 1 + 1)) (omega (arith, last, base_le, fits)) (omega (arith, last, base_le, fits)))

    pub anchor_base : (shape written token n).base ≡ n
    anchor_base = ap (λ (x : Shape). x.base) shape_t

    anchor_named : (row : Row) → get written next ≡ Some row → IsNamed root numbers written next row
    anchor_named None there = let met : Some value ≡ Some None = sym (inserted_here rows next value) ∙ there in absurd (cc)
    anchor_named (Some other) there = record {
      word = word;
      n = n;
      known = known;
      some = omega (arith, last, base_le, fits);
      i = s.apos + (s.hop + 1);
      high = omega (arith, last, base_le, fits, ap (λ (x : Shape). x.apos) shape_t, ap (λ (x : Shape). x.hop) shape_t);
      is = refl;
    }

    pub anchor_written : Moved root numbers rows written
    anchor_written =
        changed root numbers free rows written stand l.Anchor word n (s.apos + (s.hop + 1)) known refl
        (anchor_label root numbers free word n (s.apos + (s.hop + 1)) known (omega (arith, last, base_le, fits))) (inserted_but rows next value)
        t shape_t (record { apos = omega (arith, last, base_le, fits); last = omega (arith, last, base_le, fits); base = omega (arith, last, base_le, fits) }) (omega (arith, last, base_le, fits)) (omega (arith, last, base_le, fits))
        (λ j more small met. omega (arith, last, base_le, fits)) anchor_named

  -- the null anchor is written, and counts all anchors and all positions
  module _ (indexed : 1 ≤ n) (nonce : List ℕ) (long : length nonce ≡ 16) where
    abbrev null : List ℕ
    null = id_of Anchor token 0

    abbrev counts : Row
    counts = Some (sealed_pair token nonce (s.apos + s.hop) n)

    abbrev cleaned : Rows
    cleaned = insert rows null counts

    abbrev u : Shape
    u = record { apos = s.apos + s.hop; hop = 0; base = n }

    pair_is : null_pair cleaned token ≡ (s.apos + s.hop, n)
    pair_is =
        null_is cleaned token ∙ ap (pair_of token) (inserted_here rows null counts)
        ∙ pair_opens token nonce (s.apos + s.hop) n long (omega (arith, last, base_le, fits)) (omega (arith, last, base_le, fits))

    is_u : IsShape cleaned token u
    is_u = record {
      cpos = n;
      null = pair_is;
      run = λ i low high. absurd (omega (arith, last, base_le, fits));
      base = base_none cleaned token ∙ ap (λ (p : ℕ × ℕ). p.1) pair_is;
    }

    shape_u : shape cleaned token n ≡ u
    shape_u = shape_is cleaned token n u is_u (omega (arith, last, base_le, fits))
        (ap is_some ((inserted_but rows null counts).at (id_of Anchor token (s.apos + s.hop + (0 + 1)))
        (other_number (s.apos + s.hop + (0 + 1)) 0 (omega (arith, last, base_le, fits)) (omega (arith, last, base_le, fits)) (λ equal. omega (arith, last, base_le, fits))))
        ∙ no_anchor root numbers free rows stand word n known (s.apos + s.hop + (0 + 1)) (omega (arith, last, base_le, fits)) (omega (arith, last, base_le, fits)))

    pub null_shape : shape cleaned token n ≡ record { apos = s.apos + s.hop; hop = 0; base = n }
    null_shape = shape_u

    null_named : (row : Row) → get cleaned null ≡ Some row → IsNamed root numbers cleaned null row
    null_named None there = let met : Some counts ≡ Some None = sym (inserted_here rows null counts) ∙ there in absurd (cc)
    null_named (Some other) there =
        record { word = word; n = n; known = known; some = indexed; i = 0; high = omega (arith, last, base_le, fits); is = refl }

    pub null_written : Moved root numbers rows cleaned
    null_written =
        changed root numbers free rows cleaned stand l.Anchor word n 0 known refl
        (anchor_label root numbers free word n 0 known (omega (arith, last, base_le, fits))) (inserted_but rows null counts)
        u shape_u (record { apos = omega (arith, last, base_le, fits); last = omega (arith, last, base_le, fits); base = omega (arith, last, base_le, fits) }) (omega (arith, last, base_le, fits)) (omega (arith, last, base_le, fits))
        (λ j more small met. omega (arith, last, base_le, fits)) null_named
