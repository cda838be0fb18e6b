-- Words and states as bytes.
use Rattle.std.proofs.Common.{◌≡◌, ◌<◌, ◌≤◌, ◌+◌, ◌*◌, ◌/◌, ◌%◌, ◌^◌, ℕ, List, [], ◌∷◌, ◌++◌, length, take, drop, map}
use Rattle.std.proofs.Common.{slice_index, refl, ap, sym, subst, ◌∙◌, arith, bit_xor, add-zero}
use Rattle.std.specs.Int.{w32, from_be_bytes}
use Rattle.std.specs.List.{range_with_len}
use Rattle.std.specs.Int.Bits.{xor_shr, xor_mod}
use Rattle.std.proofs.lemmas.List.{get_or-map, get_or-take, get_or-drop, length-take-le, length-drop}
use Rattle.std.proofs.lemmas.List.FromFn.{fill_by_all}
use Rattle.std.proofs.lemmas.Nat.{be_bytes_4}
use Rattle.qe_aes.specs.Field.{xor_bytes}
use Rattle.qe_aes.specs.KeySchedule.{word_at}
use Rattle.qe_aes.specs.Steps.{add_round_key}
use Rattle.qe_aes.specs.Words.{word_bytes, words_of, state_bytes, mixed_column, multiples}
use Rattle.qe_base.specs.Bytes.{AreBytes}
use Rattle.qe_aes.proofs.ByteLemmas.{AreBytes-nil, AreBytes-cons}

-- a list of a known length, element by element
pub listed : (xs : List ℕ) (n : ℕ) → length xs ≡ n → xs ≡ map (λ k. slice_index xs k) (range_with_len 0 n)
listed xs n long = fill_by_all (λ k. slice_index xs k) xs n 0 long (λ k lt. refl)

-- a list of 16 is its quarters
pub quarters : (xs : List ℕ) → length xs ≡ 16 → take 4 xs ++ (take 4 (drop 4 xs) ++ (take 4 (drop 8 xs) ++ take 4 (drop 12 xs))) ≡ xs
quarters xs long =
    let IsQuartered : List ℕ → Type 0 = λ l. take 4 l ++ (take 4 (drop 4 l) ++ (take 4 (drop 8 l) ++ take 4 (drop 12 l))) ≡ l in
    subst IsQuartered (sym (listed xs 16 long)) refl

-- four elements from a place on
pub take_four-drop : (xs : List ℕ) (i : ℕ) → i + 4 ≤ length xs
    → take 4 (drop i xs) ≡ slice_index xs i ∷ slice_index xs (i + 1) ∷ slice_index xs (i + 2) ∷ slice_index xs (i + 3) ∷ []
take_four-drop xs i within =
    let long : length (take 4 (drop i xs)) ≡ 4 = length-take-le 4 (drop i xs) (omega (arith, length-drop i xs)) in
    fill_by_all (λ k. slice_index xs (i + k)) (take 4 (drop i xs)) 4 0 long
    (λ k lt. get_or-take 4 (drop i xs) k 0 lt ∙ get_or-drop i xs k 0)
    ∙ ap (λ k. slice_index xs k ∷ slice_index xs (i + 1) ∷ slice_index xs (i + 2) ∷ slice_index xs (i + 3) ∷ []) (add-zero i)

-- the word that four bytes make has these bytes
pub word_bytes-from_be_bytes : (a b c d w : ℕ) → a < 256 → b < 256 → c < 256 → d < 256
    → w ≡ from_be_bytes w32 (a ∷ b ∷ c ∷ d ∷ []) → word_bytes w ≡ a ∷ b ∷ c ∷ d ∷ []
unfolding word_bytes
word_bytes-from_be_bytes a b c d w a_lt b_lt c_lt d_lt is =
    let bytes : AreBytes (a ∷ b ∷ c ∷ d ∷ []) =
    AreBytes-cons a (b ∷ c ∷ d ∷ []) a_lt (AreBytes-cons b (c ∷ d ∷ []) b_lt (AreBytes-cons c (d ∷ []) c_lt (AreBytes-cons d [] d_lt AreBytes-nil))) in
    be_bytes_4 (a ∷ b ∷ c ∷ d ∷ []) w refl bytes is

-- a word made of four look-ups in a table of the bytes `f 0`, `f 1`, ..
pub word_bytes-looked_up : (table : List ℕ) (f : ℕ → ℕ) (xs : List ℕ) (w : ℕ) → length xs ≡ 4
    → ((b : ℕ) → b < 256 → slice_index table b ≡ f b) → ((b : ℕ) → b < 256 → f b < 256)
    → slice_index xs 0 < 256 → slice_index xs 1 < 256 → slice_index xs 2 < 256 → slice_index xs 3 < 256
    → w ≡ from_be_bytes w32 (map (λ k. slice_index table (slice_index xs k)) (range_with_len 0 4)) → word_bytes w ≡ map f xs
word_bytes-looked_up table f xs w long is_table f_lt lt0 lt1 lt2 lt3 is =
    let found = λ (k : ℕ) (lt : slice_index xs k < 256). is_table (slice_index xs k) lt in
    word_bytes-from_be_bytes _ _ _ _ w (f_lt _ lt0) (f_lt _ lt1) (f_lt _ lt2) (f_lt _ lt3)
    (is ∙ rw (found 0 lt0, found 1 lt1, found 2 lt2, found 3 lt3) refl)
    ∙ ap (map f) (sym (listed xs 4 long))

-- a byte of a sum
byte-xor : (k a b : ℕ) → bit_xor a b / 2 ^ k % 2 ^ 8 ≡ bit_xor (a / 2 ^ k % 2 ^ 8) (b / 2 ^ k % 2 ^ 8)
byte-xor k a b = ap (λ n. n % 2 ^ 8) (xor_shr a b k) ∙ xor_mod (a / 2 ^ k) (b / 2 ^ k) 8

-- the bytes of a sum of two words
pub word_bytes-xor : (a b : ℕ) → word_bytes (bit_xor a b) ≡ xor_bytes (word_bytes a) (word_bytes b)
unfolding word_bytes xor_bytes
word_bytes-xor a b = rw (byte-xor 24 a b, byte-xor 16 a b, byte-xor 8 a b, xor_mod a b 8) refl

-- the sum of what the four bytes of a column give
pub word_bytes-mixed : (a column : List ℕ) (w0 w1 w2 w3 : ℕ)
    → word_bytes w0 ≡ multiples a 0 (slice_index column 0) → word_bytes w1 ≡ multiples a 1 (slice_index column 1)
    → word_bytes w2 ≡ multiples a 2 (slice_index column 2) → word_bytes w3 ≡ multiples a 3 (slice_index column 3)
    → word_bytes (bit_xor (bit_xor (bit_xor w0 w1) w2) w3) ≡ mixed_column a column
unfolding xor_bytes
word_bytes-mixed a column w0 w1 w2 w3 is0 is1 is2 is3 =
    rw (word_bytes-xor (bit_xor (bit_xor w0 w1) w2) w3, word_bytes-xor (bit_xor w0 w1) w2, word_bytes-xor w0 w1, is0, is1, is2, is3) refl

-- a state from the bytes of its columns
pub state_bytes-columns : (a b c d : ℕ) (p q r s : List ℕ) → word_bytes a ≡ p → word_bytes b ≡ q → word_bytes c ≡ r → word_bytes d ≡ s
    → state_bytes (a, b, c, d) ≡ p ++ (q ++ (r ++ s))
unfolding state_bytes
state_bytes-columns a b c d p q r s a_is b_is c_is d_is = rw (a_is, b_is, c_is, d_is) refl

-- the sum of a column and a word of the key schedule, row by row
word_bytes-add : (x i j : ℕ) (words : List ℕ) → i ≡ j → i < length words
    → word_bytes (bit_xor x (slice_index words i))
    ≡ map (λ r. bit_xor (slice_index (word_bytes x) r) (slice_index (word_at (words_of words) j) r)) (range_with_len 0 4)
unfolding word_bytes xor_bytes
word_bytes-add x i j words same lt =
    word_bytes-xor x (slice_index words i)
    ∙ ap (λ w. map (λ r. bit_xor (slice_index (word_bytes x) r) (slice_index w r)) (range_with_len 0 4))
    (sym (get_or-map word_bytes words i 0 [] lt) ∙ ap (λ k. word_at (words_of words) k) same)

-- ADDROUNDKEY, word by word
pub state_bytes-add_round_key : (a b c d n : ℕ) (words : List ℕ) → 4 * n + 3 < length words
    → state_bytes (
      bit_xor a (slice_index words (4 * n)),
      bit_xor b (slice_index words (4 * n + 1)),
      bit_xor c (slice_index words (4 * n + 2)),
      bit_xor d (slice_index words (4 * n + 3)),
    )
    ≡ add_round_key (words_of words) n (state_bytes (a, b, c, d))
unfolding state_bytes word_bytes
state_bytes-add_round_key a b c d n words within =
    state_bytes-columns _ _ _ _ _ _ _ _
    (word_bytes-add a (4 * n) (4 * n + 0) words (sym (add-zero (4 * n))) (omega arith))
    (word_bytes-add b (4 * n + 1) (4 * n + 1) words refl (omega arith))
    (word_bytes-add c (4 * n + 2) (4 * n + 2) words refl (omega arith))
    (word_bytes-add d (4 * n + 3) (4 * n + 3) words refl within)
