-- Without a clash: labels apart by their identifiers, which rows aren't there, and what a search counts.
use Rattle.std.proofs.Common.{◌≡◌, ℕ, ◌+◌, ◌-◌, ◌*◌, ◌%◌, ◌^◌, ◌<◌, ◌≤◌, false, List, None, Some, refl, sym, ap, ◌∙◌, arith, ⊎_elim}
use Rattle.std.proofs.lemmas.Bool.{cases_lt, false_from_ne_true}
use Rattle.std.specs.FinMap.{get}
use Rattle.qe_base.specs.declared.maintenance.Count.{Count}
use Rattle.qe_tokens.specs.Labels.{row_token, IsLabel, identifier_by, is_tag}
use Rattle.qe_tokens.specs.declared.words.Label.{Label}
use Rattle.qe_tokens.specs.declared.words.LabelKind.{LabelKind}
use Rattle.qe_tokens.specs.declared.words.LabelKind.TheVariants as l
use Rattle.qe_tokens.specs.declared.words.Word.{Word}
use Rattle.qe_esc.specs.Rows.{Row, Rows, has}
use Rattle.qe_esc.specs.Identifiers.{id_of, row_after}
use Rattle.qe_esc.specs.Pairs.{null_pair, base_of}
use Rattle.qe_esc.specs.declared.key.RowKind.TheVariants.{Position, Anchor}
use Rattle.qe_protocol.specs.Counting.{IsTrue, counted, next_number}
use Rattle.qe_protocol.specs.UnitLaws.{IsOnlyCount}
use Rattle.qe_protocol.proofs.RowLemmas.{only_count}
use Rattle.qe_labels.specs.Numbers.{Numbers, counted as counted_in}
use Rattle.qe_labels.specs.Laws.{IsFree}
use Rattle.qe_relation.specs.Shape.{Shape, shape, due_count}
use Rattle.qe_relation.specs.Stands.{IsNamed, RowsStand}
use Rattle.qe_relation.proofs.PlaceLemmas.{id-wraps, row_after-is, row_there, same_some}
use Rattle.qe_relation.proofs.ShapeLemmas.{IsShape, has_shape}

-- two words and two numbers are one
pub record IsSame (v w : Word) (i j : ℕ) : Type 0 where
  pub word : v ≡ w
  pub number : i ≡ j

module _ (root : ℕ → List ℕ) (numbers : Numbers) (free : IsFree root numbers) where
  abbrev tok : Word → List ℕ
  tok word = row_token root word

  abbrev label : LabelKind → Word → ℕ → Label
  label kind word number = record { kind = kind; word = word; number = number }

  same_labels : (kind other : LabelKind) (v w : Word) (i j : ℕ) → IsLabel (counted_in numbers) (label kind v i) → IsLabel (counted_in numbers) (label other w j)
      → is_tag kind ≡ is_tag other → identifier_by root kind v i ≡ identifier_by root other w j → label kind v i ≡ label other w j
  same_labels kind other v w i j is_one is_other group id = free.one (label kind v i) (label other w j) is_one is_other group id

  pub position_label : (word : Word) (n i : ℕ) → get numbers word ≡ Some n → 1 ≤ i → i ≤ 2 * n + 2 → IsLabel (counted_in numbers) (label l.Position word i)
  position_label word n i known low high = record { count = n; known = known; has = tt; low = low; high = high }

  pub anchor_label : (word : Word) (n i : ℕ) → get numbers word ≡ Some n → i ≤ 2 * n + 2 → IsLabel (counted_in numbers) (label l.Anchor word i)
  anchor_label word n i known high = record { count = n; known = known; has = tt; low = omega arith; high = high }

  pub two_positions : (v w : Word) (n m i j : ℕ) → get numbers v ≡ Some n → get numbers w ≡ Some m → 1 ≤ i → i ≤ 2 * n + 2 → 1 ≤ j → j ≤ 2 * m + 2
      → id_of Position (tok v) i ≡ id_of Position (tok w) j → IsSame v w i j
  two_positions v w n m i j known_v known_w low high low_w high_w id =
      let one = same_labels l.Position l.Position v w i j (position_label v n i known_v low high) (position_label w m j known_w low_w high_w) refl id in
      record { word = ap (λ (x : Label). x.word) one; number = ap (λ (x : Label). x.number) one }

  pub two_anchors : (v w : Word) (n m i j : ℕ) → get numbers v ≡ Some n → get numbers w ≡ Some m → i ≤ 2 * n + 2 → j ≤ 2 * m + 2
      → id_of Anchor (tok v) i ≡ id_of Anchor (tok w) j → IsSame v w i j
  two_anchors v w n m i j known_v known_w high high_w id =
      let one = same_labels l.Anchor l.Anchor v w i j (anchor_label v n i known_v high) (anchor_label w m j known_w high_w) refl id in
      record { word = ap (λ (x : Label). x.word) one; number = ap (λ (x : Label). x.number) one }

  kinds_apart : l.Position ≡ l.Anchor → ⊥
  kinds_apart same = cc

  pub position_no_anchor : (v w : Word) (n m i j : ℕ) → get numbers v ≡ Some n → get numbers w ≡ Some m → 1 ≤ i → i ≤ 2 * n + 2 → j ≤ 2 * m + 2
      → id_of Position (tok v) i ≡ id_of Anchor (tok w) j → ⊥
  position_no_anchor v w n m i j known_v known_w low high high_w id =
      let one = same_labels l.Position l.Anchor v w i j (position_label v n i known_v low high) (anchor_label w m j known_w high_w) refl id in
      kinds_apart (ap (λ (x : Label). x.kind) one)

  -- a token is one word's
  pub one_token : (v w : Word) (n m : ℕ) → get numbers v ≡ Some n → get numbers w ≡ Some m → tok v ≡ tok w → v ≡ w
  one_token v w n m known_v known_w same =
      (two_anchors v w n m 0 0 known_v known_w (omega arith) (omega arith) (ap (λ token. id_of Anchor token 0) same)).word

  -- numbers are below 2^63: else an anchor would share its identifier with one 2^64 behind it
  pub numbers_fit : (word : Word) (n : ℕ) → get numbers word ≡ Some n → 2 * n + 2 < 2 ^ 64
  numbers_fit word n known = ⊎_elim
      (λ (fits : 2 * n + 2 < 2 ^ 64). fits)
      (λ (far : 2 ^ 64 ≤ 2 * n + 2).
      let same = two_anchors word word n n 0 (2 ^ 64) known known (omega arith) far (id-wraps Anchor (tok word) (2 ^ 64)) in
      absurd (omega (arith, same.number)))
      (cases_lt (2 * n + 2) (2 ^ 64))

  pub one_number : (v w : Word) (n m : ℕ) → get numbers v ≡ Some n → get numbers w ≡ Some m → v ≡ w → n ≡ m
  one_number v w n m known_v known_w same = same_some n m (sym known_v ∙ ap (get numbers) same ∙ known_w)

  pub one_shape : (rows : Rows) (v w : Word) (n m : ℕ) → v ≡ w → n ≡ m → shape rows (tok v) n ≡ shape rows (tok w) m
  one_shape rows v w n m word number = λ k. shape rows (tok (word k)) (number k)

  module _ (rows : Rows) (stand : RowsStand root numbers rows) where
    pub last_le : (word : Word) (n : ℕ) → get numbers word ≡ Some n → (shape rows (tok word) n).apos + (shape rows (tok word) n).hop ≤ n
    last_le word n known = omega (arith, stand.anchors word n known, stand.counted word n known)

    -- no anchor is behind the last one
    pub no_anchor : (word : Word) (n : ℕ) → get numbers word ≡ Some n → (i : ℕ)
        → (shape rows (tok word) n).apos + (shape rows (tok word) n).hop < i → i ≤ 2 * n + 2 → has rows (id_of Anchor (tok word) i) ≡ false
    no_anchor word n known i behind high =
        false_from_ne_true (has rows (id_of Anchor (tok word) i)) (λ there.
        let found = row_there (get rows (id_of Anchor (tok word) i)) there in
        no_row found.0 (stand.named (id_of Anchor (tok word) i) found.0 found.1))
      where
        no_row : (row : Row) → IsNamed root numbers rows (id_of Anchor (tok word) i) row → ⊥
        no_row None p = position_no_anchor p.word word p.n n p.i i p.known known p.low (omega (arith, p.high)) high (sym p.is)
        no_row (Some value) a =
            let last : a.i ≤ a.n = omega (arith, a.high, last_le a.word a.n a.known) in
            let same = two_anchors a.word word a.n n a.i i a.known known (omega arith) high (sym a.is) in
            let shapes = one_shape rows a.word word a.n n same.word (one_number a.word word a.n n a.known known same.word) in
            omega (arith, a.high, same.number, ap (λ (s : Shape). s.apos) shapes, ap (λ (s : Shape). s.hop) shapes, behind)

    -- no position is behind the last one
    pub no_position : (word : Word) (n : ℕ) → get numbers word ≡ Some n → (i : ℕ) → n < i → i ≤ 2 * n + 2 → has rows (id_of Position (tok word) i) ≡ false
    no_position word n known i behind high =
        false_from_ne_true (has rows (id_of Position (tok word) i)) (λ there.
        let found = row_there (get rows (id_of Position (tok word) i)) there in
        no_row found.0 (stand.named (id_of Position (tok word) i) found.0 found.1))
      where
        no_row : (row : Row) → IsNamed root numbers rows (id_of Position (tok word) i) row → ⊥
        no_row None p =
            let same = two_positions p.word word p.n n p.i i p.known known p.low (omega (arith, p.high)) (omega arith) high (sym p.is) in
            let number = one_number p.word word p.n n p.known known same.word in
            omega (arith, p.high, same.number, number, behind)
        no_row (Some value) a =
            let last : a.i ≤ a.n = omega (arith, a.high, last_le a.word a.n a.known) in
            position_no_anchor word a.word n a.n i a.i known a.known (omega arith) high (omega arith) a.is

    -- a word that was never indexed has no null anchor
    pub null_missing : (word : Word) (n : ℕ) → get numbers word ≡ Some n → n ≡ 0 → has rows (id_of Anchor (tok word) 0) ≡ false
    null_missing word n known none =
        false_from_ne_true (has rows (id_of Anchor (tok word) 0)) (λ there.
        let found = row_there (get rows (id_of Anchor (tok word) 0)) there in
        no_row found.0 (stand.named (id_of Anchor (tok word) 0) found.0 found.1))
      where
        no_row : (row : Row) → IsNamed root numbers rows (id_of Anchor (tok word) 0) row → ⊥
        no_row None p = position_no_anchor p.word word p.n n p.i 0 p.known known p.low (omega (arith, p.high)) (omega arith) (sym p.is)
        no_row (Some value) a =
            let last : a.i ≤ a.n = omega (arith, a.high, last_le a.word a.n a.known) in
            let same = two_anchors a.word word a.n n a.i 0 a.known known (omega arith) (omega arith) (sym a.is) in
            omega (arith, a.some, none, one_number a.word word a.n n a.known known same.word)

    -- ---- a word's rows have one true count, and its number is the word's
    module _ (word : Word) (n : ℕ) (known : get numbers word ≡ Some n) where
      abbrev due : Count
      due = due_count rows (tok word) n

      abbrev s : Shape
      s = shape rows (tok word) n

      of_shape : IsShape rows (tok word) s
      of_shape = has_shape rows (tok word) n

      anchor_at : (i : ℕ) → row_after rows Anchor (tok word) (null_pair rows (tok word)).0 i ≡ has rows (id_of Anchor (tok word) (s.apos + i))
      anchor_at i =
          row_after-is rows Anchor (tok word) (null_pair rows (tok word)).0 i
          ∙ ap (λ (p : ℕ × ℕ). has rows (id_of Anchor (tok word) (p.0 + i))) of_shape.null

      position_at : (i : ℕ) → row_after rows Position (tok word) (base_of rows (tok word) s.hop) i ≡ has rows (id_of Position (tok word) (s.base + i))
      position_at i =
          row_after-is rows Position (tok word) (base_of rows (tok word) s.hop) i
          ∙ ap (λ base. has rows (id_of Position (tok word) (base + i))) of_shape.base

      fits : 2 * n + 2 < 2 ^ 64
      fits = numbers_fit word n known

      base_le : s.base ≤ n
      base_le = stand.counted word n known

      last : s.apos + s.hop ≤ s.base
      last = stand.anchors word n known

      pub true_count : IsOnlyCount rows due
      true_count = only_count rows due (omega (arith, fits, base_le, last)) (omega (arith, fits, base_le, last))
          (λ i low high. anchor_at i ∙ of_shape.run i low high)
          (λ i low high. anchor_at i ∙ no_anchor word n known (s.apos + i) (omega (arith, fits, base_le, last)) (omega (arith, fits, base_le, last)))
          (λ i low high. position_at i ∙ stand.positions word n known (s.base + i) (omega (arith, fits, base_le, last)) (omega (arith, fits, base_le, last)))
          (λ i low high. position_at i ∙ no_position word n known (s.base + i) (omega (arith, fits, base_le, last)) (omega (arith, fits, base_le, last)))

      due_number : counted rows due ≡ n
      due_number =
          let whole : (s.base + (n - s.base)) % 2 ^ 64 ≡ n = omega (arith, fits, base_le, last) in
          ap (λ base. (base + (n - s.base)) % 2 ^ 64) of_shape.base ∙ whole

      pub count_is : (count : Count) → count.token ≡ tok word → IsTrue rows count → count ≡ due
      count_is count same is_true = true_count.only count same is_true

      pub number_is : (count : Count) → count.token ≡ tok word → IsTrue rows count → counted rows count ≡ n
      number_is count same is_true = ap (counted rows) (count_is count same is_true) ∙ due_number

      pub next_is : (count : Count) → count.token ≡ tok word → IsTrue rows count → next_number rows count ≡ n + 1
      next_is count same is_true =
          let small : (n + 1) % 2 ^ 64 ≡ n + 1 = omega (arith, fits, base_le, last) in
          ap (λ number. (number + 1) % 2 ^ 64) (number_is count same is_true) ∙ small
