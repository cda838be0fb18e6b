-- One row changes: what stays of the relation.
use Rattle.std.proofs.Common.{◌≡◌, ℕ, ◌+◌, ◌*◌, ◌<◌, ◌≤◌, true, false, List, None, Some, sym, ap, ◌∙◌, subst, arith, ⊎_elim}
use Rattle.std.specs.Prelude.{is_some}
use Rattle.std.specs.FinMap.{get}
use Rattle.qe_tokens.specs.Labels.{row_token, IsLabel, identifier_by, is_tag}
use Rattle.qe_tokens.specs.declared.words.Label.{Label}
use Rattle.qe_tokens.specs.declared.words.LabelKind.{LabelKind}
use Rattle.qe_tokens.specs.declared.words.LabelKind.TheVariants as l
use Rattle.qe_tokens.specs.declared.words.Word.{Word}
use Rattle.qe_esc.specs.Rows.{Row, Rows, has}
use Rattle.qe_esc.specs.Identifiers.{id_of}
use Rattle.qe_esc.specs.declared.key.RowKind.TheVariants.{Position, Anchor}
use Rattle.qe_labels.specs.Numbers.{Numbers, counted as counted_in}
use Rattle.qe_labels.specs.Laws.{IsFree}
use Rattle.qe_labels.proofs.OrderLemmas.{cases_word}
use Rattle.qe_relation.specs.Shape.{Shape, shape}
use Rattle.qe_relation.specs.Stands.{IsNamed, RowsStand}
use Rattle.qe_relation.proofs.PlaceLemmas.{SameBut, cases_id}
use Rattle.qe_relation.proofs.ShapeLemmas.{IsShape, IsShape-kept, has_shape, shape_is}
use Rattle.qe_relation.proofs.FreeLemmas.{position_label, anchor_label, one_number, one_shape, last_le, no_anchor}

-- rows that stand, and of which each word's anchors and what they count have only grown
pub record Moved (root : ℕ → List ℕ) (numbers : Numbers) (before after : Rows) : Type 0 where
  pub stand : RowsStand root numbers after
  pub apos : (word : Word) (n : ℕ) → get numbers word ≡ Some n → (shape before (row_token root word) n).apos ≤ (shape after (row_token root word) n).apos
  pub last : (word : Word) (n : ℕ) → get numbers word ≡ Some n
      → (shape before (row_token root word) n).apos + (shape before (row_token root word) n).hop
      ≤ (shape after (row_token root word) n).apos + (shape after (row_token root word) n).hop
  pub base : (word : Word) (n : ℕ) → get numbers word ≡ Some n → (shape before (row_token root word) n).base ≤ (shape after (row_token root word) n).base

pub moved_none : (root : ℕ → List ℕ) (numbers : Numbers) (rows : Rows) → RowsStand root numbers rows → Moved root numbers rows rows
moved_none root numbers rows stand =
    record { stand = stand; apos = λ word n known. omega arith; last = λ word n known. omega arith; base = λ word n known. omega arith }

-- a shape follows another one
pub record Onward (before after : Shape) : Type 0 where
  pub apos : before.apos ≤ after.apos
  pub last : before.apos + before.hop ≤ after.apos + after.hop
  pub base : before.base ≤ after.base

module _ (root : ℕ → List ℕ) (numbers : Numbers) (free : IsFree root numbers) (before after : Rows) (was : RowsStand root numbers before) where
  abbrev tok : Word → List ℕ
  tok word = row_token root word

  -- a word keeps its shape of whose anchors none is changed, also where it is indexed once more
  pub unaffected : (word : Word) (n : ℕ) → get numbers word ≡ Some n → ((i : ℕ) → i ≤ 2 * n + 2 → get after (id_of Anchor (tok word) i) ≡ get before (id_of Anchor (tok word) i))
      → (k : ℕ) → n ≤ k → shape after (tok word) k ≡ shape before (tok word) n
  unaffected word n known same k more =
      let s : Shape = shape before (tok word) n in
      let last : s.apos + s.hop ≤ n = last_le root numbers free before was word n known in
      let kept : IsShape after (tok word) s = IsShape-kept before after (tok word) s (same 0 (omega arith)) (λ i low high. same (s.apos + i) (omega arith)) (has_shape before (tok word) n) in
      let stop : has after (id_of Anchor (tok word) (s.apos + (s.hop + 1))) ≡ false =
      ap is_some (same (s.apos + (s.hop + 1)) (omega arith)) ∙ no_anchor root numbers free before was word n known (s.apos + (s.hop + 1)) (omega arith) (omega arith) in
      shape_is after (tok word) k s kept (omega arith) stop

  -- a change at a label of one word
  module _ (kind : LabelKind) (one : Word) (n i : ℕ) (known : get numbers one ≡ Some n) (no_tag : is_tag kind ≡ false)
      (is_label : IsLabel (counted_in numbers) (record { kind = kind; word = one; number = i })) (same : SameBut (identifier_by root kind one i) before after) where
    abbrev id : List ℕ
    id = identifier_by root kind one i

    other_anchor : (word : Word) (k j : ℕ) → get numbers word ≡ Some k → j ≤ 2 * k + 2 → (word ≡ one → ⊥) → id_of Anchor (tok word) j ≡ id → ⊥
    other_anchor word k j knows high apart met =
        let label : Label = record { kind = l.Anchor; word = word; number = j } in
        let place : Label = record { kind = kind; word = one; number = i } in
        let equal : label ≡ place = free.one label place (anchor_label root numbers free word k j knows high) is_label (sym no_tag) met in
        apart (ap (λ (x : Label). x.word) equal)

    other_position : (word : Word) (k j : ℕ) → get numbers word ≡ Some k → 1 ≤ j → j ≤ 2 * k + 2 → (word ≡ one → ⊥) → id_of Position (tok word) j ≡ id → ⊥
    other_position word k j knows low high apart met =
        let label : Label = record { kind = l.Position; word = word; number = j } in
        let place : Label = record { kind = kind; word = one; number = i } in
        let equal : label ≡ place = free.one label place (position_label root numbers free word k j knows low high) is_label (sym no_tag) met in
        apart (ap (λ (x : Label). x.word) equal)

    other_shape : (word : Word) (k : ℕ) → get numbers word ≡ Some k → (word ≡ one → ⊥) → shape after (tok word) k ≡ shape before (tok word) k
    other_shape word k knows apart =
        unaffected word k knows (λ j high. same.at (id_of Anchor (tok word) j) (other_anchor word k j knows high apart)) k (omega arith)

    -- .. that gives it another shape
    module _ (t : Shape) (is : shape after (tok one) n ≡ t) (onward : Onward (shape before (tok one) n) t) (anchors : t.apos + t.hop ≤ t.base) (within : t.base ≤ n)
        (stays : (j : ℕ) → t.base < j → j ≤ n → id_of Position (tok one) j ≡ id → ⊥)
        (names : (row : Row) → get after id ≡ Some row → IsNamed root numbers after id row) where
      shape_at : (word : Word) (k : ℕ) → get numbers word ≡ Some k → word ≡ one → shape after (tok word) k ≡ t
      shape_at word k knows equal = one_shape root numbers free after word one k n equal (one_number root numbers free word one k n knows known equal) ∙ is

      was_at : (word : Word) (k : ℕ) → get numbers word ≡ Some k → word ≡ one → shape before (tok word) k ≡ shape before (tok one) n
      was_at word k knows equal = one_shape root numbers free before word one k n equal (one_number root numbers free word one k n knows known equal)

      onward_at : (word : Word) (k : ℕ) → get numbers word ≡ Some k → Onward (shape before (tok word) k) (shape after (tok word) k)
      onward_at word k knows = ⊎_elim
          (λ (equal : word ≡ one).
          let a = shape_at word k knows equal in
          let b = was_at word k knows equal in
          subst (λ (p : Shape × Shape). Onward p.0 p.1) (λ j. (sym b j, sym a j)) onward)
          (λ (apart : word ≡ one → ⊥).
          let e = other_shape word k knows apart in
          let apos = ap (λ (x : Shape). x.apos) e in
          let hop = ap (λ (x : Shape). x.hop) e in
          let base = ap (λ (x : Shape). x.base) e in
          record { apos = omega arith; last = omega arith; base = omega arith })
          (cases_word word one)

      anchors_at : (word : Word) (k : ℕ) → get numbers word ≡ Some k → (shape after (tok word) k).apos + (shape after (tok word) k).hop ≤ (shape after (tok word) k).base
      anchors_at word k knows = ⊎_elim
          (λ (equal : word ≡ one). subst (λ (x : Shape). x.apos + x.hop ≤ x.base) (sym (shape_at word k knows equal)) anchors)
          (λ (apart : word ≡ one → ⊥). subst (λ (x : Shape). x.apos + x.hop ≤ x.base) (sym (other_shape word k knows apart)) (was.anchors word k knows))
          (cases_word word one)

      counted_at : (word : Word) (k : ℕ) → get numbers word ≡ Some k → (shape after (tok word) k).base ≤ k
      counted_at word k knows = ⊎_elim
          (λ (equal : word ≡ one).
          let base = ap (λ (x : Shape). x.base) (shape_at word k knows equal) in
          let number = one_number root numbers free word one k n knows known equal in
          omega arith)
          (λ (apart : word ≡ one → ⊥). subst (λ (x : Shape). x.base ≤ k) (sym (other_shape word k knows apart)) (was.counted word k knows))
          (cases_word word one)

      differs : (word : Word) (k : ℕ) → get numbers word ≡ Some k → (j : ℕ) → (shape after (tok word) k).base < j → j ≤ k → id_of Position (tok word) j ≡ id → ⊥
      differs word k knows j more high met = ⊎_elim
          (λ (equal : word ≡ one).
          let base = ap (λ (x : Shape). x.base) (shape_at word k knows equal) in
          let number = one_number root numbers free word one k n knows known equal in
          stays j (omega arith) (omega arith) (ap (λ w. id_of Position (tok w) j) (sym equal) ∙ met))
          (λ (apart : word ≡ one → ⊥). other_position word k j knows (omega arith) (omega arith) apart met)
          (cases_word word one)

      positions_at : (word : Word) (k : ℕ) → get numbers word ≡ Some k → (j : ℕ) → (shape after (tok word) k).base < j → j ≤ k → has after (id_of Position (tok word) j) ≡ true
      positions_at word k knows j more high =
          let grown = (onward_at word k knows).base in
          ap is_some (same.at (id_of Position (tok word) j) (differs word k knows j more high)) ∙ was.positions word k knows j (omega arith) high

      named_on : (other : List ℕ) (row : Row) → IsNamed root numbers before other row → IsNamed root numbers after other row
      named_on other None p = p
      named_on other (Some value) a = record {
        word = a.word;
        n = a.n;
        known = a.known;
        some = a.some;
        i = a.i;
        high = omega (arith, a.high, (onward_at a.word a.n a.known).last);
        is = a.is;
      }

      named_at : (other : List ℕ) (row : Row) → get after other ≡ Some row → IsNamed root numbers after other row
      named_at other row there = ⊎_elim
          (λ (here : other ≡ id). subst (λ q. IsNamed root numbers after q row) (sym here) (names row (ap (get after) (sym here) ∙ there)))
          (λ (apart : other ≡ id → ⊥). named_on other row (was.named other row (sym (same.at other apart) ∙ there)))
          (cases_id other id)

      pub changed : Moved root numbers before after
      changed = record {
        stand = record { anchors = anchors_at; counted = counted_at; positions = positions_at; named = named_at };
        apos = λ word k knows. (onward_at word k knows).apos;
        last = λ word k knows. (onward_at word k knows).last;
        base = λ word k knows. (onward_at word k knows).base;
      }
