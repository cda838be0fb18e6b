-- MIXCOLUMNS and INVMIXCOLUMNS undo each other: both are linear, and one after the other they keep each column
-- with only one byte.
use Rattle.std.proofs.Common.{◌≡◌, ◌+◌, ◌-◌, ◌*◌, ◌%◌, ◌<◌, ℕ, List, [], ◌∷◌, ◌++◌, true, map, slice_index, bit_xor, refl, ap}
use Rattle.std.proofs.Common.{sym, ◌∙◌, lit<}
use Rattle.std.specs.Prelude.{◌==◌, if◌then◌else◌}
use Rattle.std.specs.List.{range_with_len}
use Rattle.std.specs.Int.Bits.{xor_zero_l, xor_zero_r}
use Rattle.qe_aes.specs.Field.{xor_bytes, product_below, product}
use Rattle.qe_aes.specs.Steps.{mixed_row, column_of, mixed, mix_factors, inv_mix_factors, mix_columns, inv_mix_columns}
use Rattle.qe_aes.specs.Words.{mixed_column}
use Rattle.qe_aes.specs.Laws.{IsBlock}
use Rattle.qe_aes.proofs.FieldLemmas.{xor-swap, product_below-xor}
use Rattle.qe_aes.proofs.TableLemmas.{families_agree, same_families}
use Rattle.qe_aes.proofs.WordLemmas.{listed}

-- a row of the sum of two columns
mixed_row-xor : (a : List ℕ) (r w x y z w' x' y' z' : ℕ)
    → mixed_row a r (bit_xor w w' ∷ bit_xor x x' ∷ bit_xor y y' ∷ bit_xor z z' ∷ [])
    ≡ bit_xor (mixed_row a r (w ∷ x ∷ y ∷ z ∷ [])) (mixed_row a r (w' ∷ x' ∷ y' ∷ z' ∷ []))
mixed_row-xor a r w x y z w' x' y' z' =
    rw (linear w w' 0, linear x x' 1, linear y y' 2, linear z z' 3)
    (regroup (times w 0) (times x 1) (times y 2) (times z 3) (times w' 0) (times x' 1) (times y' 2) (times z' 3))
  where
    times : ℕ → ℕ → ℕ
    times b j = product b (slice_index a ((r + 4 - j) % 4))

    linear : (b b' j : ℕ) → times (bit_xor b b') j ≡ bit_xor (times b j) (times b' j)
    linear b b' j = product_below-xor 8 b b' (slice_index a ((r + 4 - j) % 4))

    regroup : (p q s t p' q' s' t' : ℕ)
        → bit_xor (bit_xor (bit_xor (bit_xor p p') (bit_xor q q')) (bit_xor s s')) (bit_xor t t')
        ≡ bit_xor (bit_xor (bit_xor (bit_xor p q) s) t) (bit_xor (bit_xor (bit_xor p' q') s') t')
    regroup p q s t p' q' s' t' =
        rw (xor-swap p p' q q', xor-swap (bit_xor p q) (bit_xor p' q') s s', xor-swap (bit_xor (bit_xor p q) s) (bit_xor (bit_xor p' q') s') t t') refl

-- all rows
mixed_column-xor : (a : List ℕ) (w x y z w' x' y' z' : ℕ)
    → mixed_column a (bit_xor w w' ∷ bit_xor x x' ∷ bit_xor y y' ∷ bit_xor z z' ∷ [])
    ≡ xor_bytes (mixed_column a (w ∷ x ∷ y ∷ z ∷ [])) (mixed_column a (w' ∷ x' ∷ y' ∷ z' ∷ []))
unfolding xor_bytes
mixed_column-xor a w x y z w' x' y' z' =
    let row = λ (r : ℕ). mixed_row-xor a r w x y z w' x' y' z' in
    rw (row 0, row 1, row 2, row 3) refl

-- a column put through two matrices
abbrev twice : List ℕ → List ℕ → List ℕ → List ℕ
twice a b column = mixed_column b (mixed_column a column)

-- if these keep two columns, they keep the sum
twice-xor : (a b : List ℕ) (w x y z w' x' y' z' : ℕ)
    → twice a b (w ∷ x ∷ y ∷ z ∷ []) ≡ w ∷ x ∷ y ∷ z ∷ [] → twice a b (w' ∷ x' ∷ y' ∷ z' ∷ []) ≡ w' ∷ x' ∷ y' ∷ z' ∷ []
    → twice a b (bit_xor w w' ∷ bit_xor x x' ∷ bit_xor y y' ∷ bit_xor z z' ∷ []) ≡ bit_xor w w' ∷ bit_xor x x' ∷ bit_xor y y' ∷ bit_xor z z' ∷ []
unfolding xor_bytes
twice-xor a b w x y z w' x' y' z' kept kept' =
    ap (mixed_column b) (mixed_column-xor a w x y z w' x' y' z') ∙ mixed_column-xor b _ _ _ _ _ _ _ _
    ∙ ap (λ l. xor_bytes l (twice a b (w' ∷ x' ∷ y' ∷ z' ∷ []))) kept ∙ ap (xor_bytes (w ∷ x ∷ y ∷ z ∷ [])) kept'

-- the column with b in row i and zeros
abbrev lone : ℕ → ℕ → List ℕ
lone i b = map (λ r. if r == i then b else 0) (range_with_len 0 4)

-- so they keep every column if a test finds that they keep those
twice_kept : (a b : List ℕ) → families_agree (λ i k. twice a b (lone i k)) lone 4 256 ≡ true
    → (w x y z : ℕ) → w < 256 → x < 256 → y < 256 → z < 256 → twice a b (w ∷ x ∷ y ∷ z ∷ []) ≡ w ∷ x ∷ y ∷ z ∷ []
twice_kept a b test w x y z w_lt x_lt y_lt z_lt =
    let kept = λ (i k : ℕ) (i_lt : i < 4) (k_lt : k < 256). same_families (λ j l. twice a b (lone j l)) lone 4 256 i k test i_lt k_lt in
    let two = twice-xor a b w 0 0 0 0 x 0 0 (kept 0 w (lit< tt) w_lt) (kept 1 x (lit< tt) x_lt) in
    let three = twice-xor a b (bit_xor w 0) (bit_xor 0 x) 0 0 0 0 y 0 two (kept 2 y (lit< tt) y_lt) in
    let four = twice-xor a b (bit_xor (bit_xor w 0) 0) (bit_xor (bit_xor 0 x) 0) (bit_xor 0 y) 0 0 0 0 z three (kept 3 z (lit< tt) z_lt) in
    simp (xor_zero_l, xor_zero_r) at four

-- and every block
mixed-mixed : (a b s : List ℕ) → IsBlock s → families_agree (λ i k. twice a b (lone i k)) lone 4 256 ≡ true → mixed b (mixed a s) ≡ s
mixed-mixed a b s is test =
    let column = λ (c : ℕ). twice a b (column_of s c) in
    let kept = λ (c : ℕ). twice_kept a b test (slice_index s (0 + 4 * c)) (slice_index s (1 + 4 * c)) (slice_index s (2 + 4 * c)) (slice_index s (3 + 4 * c))
    (is.bytes (0 + 4 * c)) (is.bytes (1 + 4 * c)) (is.bytes (2 + 4 * c)) (is.bytes (3 + 4 * c)) in
    ap (λ p. p ++ (column 1 ++ (column 2 ++ column 3))) (kept 0)
    ∙ ap (λ p. column_of s 0 ++ (p ++ (column 2 ++ column 3))) (kept 1)
    ∙ ap (λ p. column_of s 0 ++ (column_of s 1 ++ (p ++ column 3))) (kept 2)
    ∙ ap (λ p. column_of s 0 ++ (column_of s 1 ++ (column_of s 2 ++ p))) (kept 3)
    ∙ sym (listed s 16 is.long)

-- INVMIXCOLUMNS undoes MIXCOLUMNS
pub inv_mix_columns-mix_columns : (s : List ℕ) → IsBlock s → inv_mix_columns (mix_columns s) ≡ s
unfolding product_below
inv_mix_columns-mix_columns s is = mixed-mixed mix_factors inv_mix_factors s is refl

-- MIXCOLUMNS undoes INVMIXCOLUMNS
pub mix_columns-inv_mix_columns : (s : List ℕ) → IsBlock s → mix_columns (inv_mix_columns s) ≡ s
unfolding product_below
mix_columns-inv_mix_columns s is = mixed-mixed inv_mix_factors mix_factors s is refl
