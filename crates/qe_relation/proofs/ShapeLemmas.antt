-- What makes a shape, and what leaves it as it is.
use Rattle.std.proofs.Common.{◌≡◌, ℕ, zero, suc, ◌+◌, ◌%◌, ◌^◌, ◌≤◌, true, false, List, Option, None, Some, refl, sym, ap, ◌∙◌, arith}
use Rattle.std.proofs.lemmas.Bool.{cond-false, ne_eqb}
use Rattle.std.specs.Prelude.{is_some, ◌==◌}
use Rattle.std.specs.FinMap.{get}
use Rattle.qe_esc.specs.Rows.{Row, Rows, has}
use Rattle.qe_esc.specs.Identifiers.{id_of, row_after}
use Rattle.qe_esc.specs.Pairs.{pair_of, null_pair, base_of}
use Rattle.qe_esc.specs.declared.key.RowKind.TheVariants.{Anchor}
use Rattle.qe_relation.specs.Shape.{Shape, shape, anchors_behind}
use Rattle.qe_relation.proofs.RunLemmas.{run_le, run_all, run_is}
use Rattle.qe_relation.proofs.PlaceLemmas.{id-wraps, row_after-is}

-- the rows have this shape, whatever follows
pub record IsShape (rows : Rows) (token : List ℕ) (s : Shape) : Type 0 where
  pub cpos : ℕ
  pub null : null_pair rows token ≡ (s.apos, cpos)
  pub run : (i : ℕ) → 1 ≤ i → i ≤ s.hop → has rows (id_of Anchor token (s.apos + i)) ≡ true
  pub base : base_of rows token s.hop ≡ s.base

pub null_is : (rows : Rows) (token : List ℕ) → null_pair rows token ≡ pair_of token (get rows (id_of Anchor token 0))
unfolding null_pair
null_is rows token = refl

-- where there is no null anchor, nothing was taken out or counted
none_of : (token : List ℕ) (o : Option Row) → is_some o ≡ false → pair_of token o ≡ (0, 0)
none_of token None none = refl
none_of token (Some row) none = absurd (cc)

pub null_missing_pair : (rows : Rows) (token : List ℕ) → has rows (id_of Anchor token 0) ≡ false → null_pair rows token ≡ (0, 0)
null_missing_pair rows token none = null_is rows token ∙ none_of token (get rows (id_of Anchor token 0)) none

pub base_none : (rows : Rows) (token : List ℕ) → base_of rows token 0 ≡ (null_pair rows token).1
unfolding base_of
base_none rows token = refl

pub base_some : (rows : Rows) (token : List ℕ) (apos hop : ℕ) → (null_pair rows token).0 ≡ apos → 1 ≤ hop
    → base_of rows token hop ≡ (pair_of token (get rows (id_of Anchor token (apos + hop)))).1
unfolding base_of
base_some rows token apos hop is low =
    cond-false (hop == 0) (null_pair rows token).1 (pair_of token (get rows (id_of Anchor token (((null_pair rows token).0 + hop) % 2 ^ 64)))).1
    (ne_eqb hop 0 (λ none. omega arith))
    ∙ ap (λ id. (pair_of token (get rows id)).1) (id-wraps Anchor token ((null_pair rows token).0 + hop))
    ∙ ap (λ a. (pair_of token (get rows (id_of Anchor token (a + hop)))).1) is

pub has_shape : (rows : Rows) (token : List ℕ) (n : ℕ) → IsShape rows token (shape rows token n)
unfolding shape
has_shape rows token n = record {
  cpos = (null_pair rows token).1;
  null = refl;
  run = λ i low high.
      sym (row_after-is rows Anchor token (null_pair rows token).0 i)
      ∙ run_all n (row_after rows Anchor token (null_pair rows token).0) i low high;
  base = refl;
}

pub hop_le : (rows : Rows) (token : List ℕ) (n : ℕ) → (shape rows token n).hop ≤ n
unfolding shape
hop_le rows token n = run_le n (row_after rows Anchor token (null_pair rows token).0)

pub shape_is : (rows : Rows) (token : List ℕ) (n : ℕ) (s : Shape) → IsShape rows token s → s.hop ≤ n
    → has rows (id_of Anchor token (s.apos + (s.hop + 1))) ≡ false → shape rows token n ≡ s
unfolding shape
shape_is rows token n s is within stop =
    let apos_is : (null_pair rows token).0 ≡ s.apos = ap (λ (p : ℕ × ℕ). p.0) is.null in
    let there = row_after rows Anchor token (null_pair rows token).0 in
    let at_distance = λ (i : ℕ). row_after-is rows Anchor token (null_pair rows token).0 i ∙ ap (λ a. has rows (id_of Anchor token (a + i))) apos_is in
    let hop_is : anchors_behind rows token n ≡ s.hop =
    run_is n there s.hop (λ i low high. at_distance i ∙ is.run i low high) within (at_distance (s.hop + 1) ∙ stop) in
    let base_is : base_of rows token (anchors_behind rows token n) ≡ s.base = ap (base_of rows token) hop_is ∙ is.base in
    λ k. record { apos = apos_is k; hop = hop_is k; base = base_is k }

-- a shape is read of the null anchor and of the anchors in a row
module _ (before after : Rows) (token : List ℕ) (s : Shape)
    (null_same : get after (id_of Anchor token 0) ≡ get before (id_of Anchor token 0))
    (run_same : (i : ℕ) → 1 ≤ i → i ≤ s.hop → get after (id_of Anchor token (s.apos + i)) ≡ get before (id_of Anchor token (s.apos + i))) where
  null_kept : null_pair after token ≡ null_pair before token
  null_kept = null_is after token ∙ ap (pair_of token) null_same ∙ sym (null_is before token)

  base_kept : (hop : ℕ) → hop ≡ s.hop → (null_pair before token).0 ≡ s.apos → base_of after token hop ≡ base_of before token hop
  base_kept zero is at = base_none after token ∙ ap (λ (p : ℕ × ℕ). p.1) null_kept ∙ sym (base_none before token)
  base_kept (suc hop) is at =
      let at_after : (null_pair after token).0 ≡ s.apos = ap (λ (p : ℕ × ℕ). p.0) null_kept ∙ at in
      base_some after token s.apos (suc hop) at_after (omega arith)
      ∙ ap (λ row. (pair_of token row).1) (run_same (suc hop) (omega arith) (omega arith))
      ∙ sym (base_some before token s.apos (suc hop) at (omega arith))

  pub IsShape-kept : IsShape before token s → IsShape after token s
  IsShape-kept is = record {
    cpos = is.cpos;
    null = null_kept ∙ is.null;
    run = λ i low high. ap is_some (run_same i low high) ∙ is.run i low high;
    base = base_kept s.hop refl (ap (λ (p : ℕ × ℕ). p.0) is.null) ∙ is.base;
  }
