-- Rows: a token has one true count, and what units write opens to what was counted.
use Rattle.std.proofs.Common.{◌≡◌, ℕ, ◌+◌, ◌%◌, ◌^◌, ◌*◌, ◌<◌, ◌≤◌, ◌&&◌, ◌==◌, List, length, true, false, Some, refl, ap, ◌∙◌, subst, arith}
use Rattle.std.proofs.lemmas.Bool.{cond_both, cond-true, cond-false, and_parts, eqb-true, ne_eqb}
use Rattle.std.proofs.lemmas.Slice.Eq.{bytes_eq-Decides}
use Rattle.std.specs.FinMap.{get, insert, get-insert}
use Rattle.std.specs.Cmp.{eq_by_cmp_equiv}
use Rattle.std.specs.Cmp.Lexicographic.{slice_cmp, nat_list_cmp_total, texts_ties}
use Rattle.std.specs.Ordering.{nat_cmp, eq_by_cmp}
use Rattle.qe_base.specs.declared.maintenance.Count.{Count}
use Rattle.qe_seal.proofs.EncipheredLemmas.{deciphered_pair-enciphered_pair}
use Rattle.qe_tokens.specs.Tokens.{esc_value_of}
use Rattle.qe_esc.specs.Rows.{Row, Rows, has}
use Rattle.qe_esc.specs.Boundary.{IsBoundary}
use Rattle.qe_esc.specs.Changes.{with_row}
use Rattle.qe_esc.specs.Counts.{IsTrueCount}
use Rattle.qe_esc.specs.Laws.{IsOnlyBoundary}
use Rattle.qe_esc.specs.Identifiers.{id_of, row_after}
use Rattle.qe_esc.specs.Pairs.{pair_of, null_pair, base_of, sealed_pair}
use Rattle.qe_esc.specs.declared.key.RowKind.TheVariants.{Anchor, Position}
use Rattle.qe_esc.proofs.LawLemmas.{only_boundary}
use Rattle.qe_protocol.specs.Counting.{IsTrue, counted}
use Rattle.qe_protocol.specs.Units.{compacted, cleaned, is_cleaned, last_anchor}
use Rattle.qe_protocol.specs.UnitLaws.{IsOnlyCount, OneTrueCount, WritesCounts}

module _ (rows : Rows) (count : Count) (hop_small : count.hop < 2 ^ 63) (positions_small : count.positions < 2 ^ 63)
    (anchors : (i : ℕ) → 1 ≤ i → i ≤ count.hop → row_after rows Anchor count.token (null_pair rows count.token).0 i ≡ true)
    (no_anchors : (i : ℕ) → count.hop < i → i ≤ 2 * count.hop + 1 → row_after rows Anchor count.token (null_pair rows count.token).0 i ≡ false)
    (positions : (i : ℕ) → 1 ≤ i → i ≤ count.positions → row_after rows Position count.token (base_of rows count.token count.hop) i ≡ true)
    (no_positions : (i : ℕ) → count.positions < i → i ≤ 2 * count.positions + 1 → row_after rows Position count.token (base_of rows count.token count.hop) i ≡ false) where
  anchors_bound : IsOnlyBoundary (row_after rows Anchor count.token (null_pair rows count.token).0) count.hop
  anchors_bound = only_boundary (row_after rows Anchor count.token (null_pair rows count.token).0) count.hop hop_small anchors no_anchors

  positions_bound : IsOnlyBoundary (row_after rows Position count.token (base_of rows count.token count.hop)) count.positions
  positions_bound =
      only_boundary (row_after rows Position count.token (base_of rows count.token count.hop)) count.positions positions_small positions no_positions

  no_other : (other : Count) → other.token ≡ count.token → IsTrue rows other → other ≡ count
  no_other other same is_true =
      let moved : IsTrueCount rows count.token other.hop other.positions =
      subst (λ token. IsTrueCount rows token other.hop other.positions) same is_true in
      let hop_is : other.hop ≡ count.hop = anchors_bound.only other.hop moved.anchors_end in
      let positions_is : other.positions ≡ count.positions = positions_bound.only other.positions
      (subst (λ hop. IsBoundary (row_after rows Position count.token (base_of rows count.token hop)) other.positions) hop_is moved.positions_end) in
      λ i. record { token = same i; hop = hop_is i; positions = positions_is i }

  one_count : IsOnlyCount rows count
  one_count = record { is = record { anchors_end = anchors_bound.is; positions_end = positions_bound.is }; only = no_other }

pub only_count : OneTrueCount
only_count = one_count

-- a row that was written
tied : (id : List ℕ) → eq_by_cmp (slice_cmp nat_cmp) id id ≡ true
tied id = (eq_by_cmp_equiv nat_list_cmp_total).refl id

get-written : (rows : Rows) (id : List ℕ) (row : Row) → get (insert rows id row) id ≡ Some row
get-written rows id row = get-insert nat_list_cmp_total rows id row id ∙ cond-true (eq_by_cmp (slice_cmp nat_cmp) id id) (Some row) (get rows id) (tied id)

opens : (token nonce : List ℕ) (first second : ℕ) → length nonce ≡ 16 → first < 2 ^ 64 → second < 2 ^ 64
    → pair_of token (Some (Some (sealed_pair token nonce first second))) ≡ (first, second)
opens token nonce first second long first_fits second_fits = deciphered_pair-enciphered_pair (esc_value_of token) nonce first second long first_fits second_fits

counted-fits : (rows : Rows) (count : Count) → counted rows count < 2 ^ 64
counted-fits rows count = omega arith

compaction_writes : (rows : Rows) (count : Count) (nonce : List ℕ) → length nonce ≡ 16 → (count.positions ≡ 0 → ⊥)
    → has rows (id_of Anchor count.token ((last_anchor rows count + 1) % 2 ^ 64)) ≡ false
    → pair_of count.token (get (compacted rows count nonce) (id_of Anchor count.token ((last_anchor rows count + 1) % 2 ^ 64))) ≡ (0, counted rows count)
compaction_writes rows count nonce long some new =
    let anchor = id_of Anchor count.token ((last_anchor rows count + 1) % 2 ^ 64) in
    let value : Row = Some (sealed_pair count.token nonce 0 (counted rows count)) in
    let written : compacted rows count nonce ≡ insert rows anchor value =
    cond-false (count.positions == 0) rows (with_row rows anchor value) (ne_eqb count.positions 0 some) ∙ cond-false (has rows anchor) rows (insert rows anchor value) new in
    ap (λ after. pair_of count.token (get after anchor)) written
    ∙ ap (pair_of count.token) (get-written rows anchor value)
    ∙ opens count.token nonce 0 (counted rows count) long (omega arith) (counted-fits rows count)

cleanup_writes : (rows : Rows) (count : Count) (nonce : List ℕ) → length nonce ≡ 16
    → null_pair (cleaned rows count nonce) count.token ≡ (last_anchor rows count, counted rows count)
unfolding null_pair
cleanup_writes rows count nonce long =
    let null = id_of Anchor count.token 0 in
    let value : Row = Some (sealed_pair count.token nonce (last_anchor rows count) (counted rows count)) in
    cond_both (is_cleaned rows count) rows (insert rows null value) (λ after. pair_of count.token (get after null) ≡ (last_anchor rows count, counted rows count))
    (λ yes.
    let pair = pair_of count.token (get rows null) in
    let both = (and_parts (has rows null) (pair.0 == last_anchor rows count && (pair.1 == counted rows count)) yes).1 in
    let parts = and_parts (pair.0 == last_anchor rows count) (pair.1 == counted rows count) both in
    let first : pair.0 ≡ last_anchor rows count = eqb-true pair.0 (last_anchor rows count) parts.0 in
    let second : pair.1 ≡ counted rows count = eqb-true pair.1 (counted rows count) parts.1 in
    λ i. (first i, second i))
    (λ _. ap (pair_of count.token) (get-written rows null value)
    ∙ opens count.token nonce (last_anchor rows count) (counted rows count) long (omega arith) (counted-fits rows count))

-- and every other row stays
others_stay : (rows : Rows) (id other : List ℕ) (row : Row) → (other ≡ id → ⊥) → get (insert rows id row) other ≡ get rows other
others_stay rows id other row apart =
    get-insert nat_list_cmp_total rows id row other
    ∙ cond_both (eq_by_cmp (slice_cmp nat_cmp) other id) (Some row) (get rows other) (λ found. found ≡ get rows other)
    (λ tie. absurd (apart ((bytes_eq-Decides other id).0 (texts_ties other id ∙ tie)))) (λ _. refl)

compaction_keeps : (rows : Rows) (count : Count) (nonce id : List ℕ)
    → (id ≡ id_of Anchor count.token ((last_anchor rows count + 1) % 2 ^ 64) → ⊥) → get (compacted rows count nonce) id ≡ get rows id
compaction_keeps rows count nonce id apart =
    let anchor = id_of Anchor count.token ((last_anchor rows count + 1) % 2 ^ 64) in
    let value : Row = Some (sealed_pair count.token nonce 0 (counted rows count)) in
    cond_both (count.positions == 0) rows (with_row rows anchor value) (λ after. get after id ≡ get rows id) (λ _. refl)
    (λ _. cond_both (has rows anchor) rows (insert rows anchor value) (λ after. get after id ≡ get rows id) (λ _. refl)
    (λ _. others_stay rows anchor id value apart))

compaction_idle : (rows : Rows) (count : Count) (nonce : List ℕ) → count.positions ≡ 0 → compacted rows count nonce ≡ rows
compaction_idle rows count nonce none = cond-true (count.positions == 0) rows _ (ap (λ n. n == 0) none)

cleanup_keeps : (rows : Rows) (count : Count) (nonce id : List ℕ)
    → (id ≡ id_of Anchor count.token 0 → ⊥) → get (cleaned rows count nonce) id ≡ get rows id
cleanup_keeps rows count nonce id apart =
    let null = id_of Anchor count.token 0 in
    let value : Row = Some (sealed_pair count.token nonce (last_anchor rows count) (counted rows count)) in
    cond_both (is_cleaned rows count) rows (insert rows null value) (λ after. get after id ≡ get rows id) (λ _. refl)
    (λ _. others_stay rows null id value apart)

pub writes_counts : WritesCounts
writes_counts = record {
  compaction = compaction_writes;
  cleanup = cleanup_writes;
  compaction_keeps = compaction_keeps;
  compaction_idle = compaction_idle;
  cleanup_keeps = cleanup_keeps;
}
