-- The words of the key schedule, one after another.
use Rattle.std.proofs.Common.{◌≡◌, ◌≢◌, ◌+◌, ◌-◌, ◌*◌, ◌/◌, ◌%◌, ◌<◌, ◌≤◌, ℕ, zero, suc, List, [], ◌∷◌, ◌++◌, true, length, take}
use Rattle.std.proofs.Common.{drop, map, slice_index, slice_set, bit_xor, refl, ap, sym, subst, ◌∙◌, arith, length-append, lit<}
use Rattle.std.specs.Prelude.{◌==◌}
use Rattle.std.specs.List.{concat, range_with_len}
use Rattle.std.specs.Str.{bytes_eq}
use Rattle.std.proofs.lemmas.Bool.{agree_below_at, cond_both}
use Rattle.std.proofs.lemmas.Bool.Decides.{nat_tests}
use Rattle.std.proofs.lemmas.List.{take_more_set, map_push, get_or-map, get_or-take, length-take-le, take-append-le}
use Rattle.std.proofs.lemmas.Slice.Eq.{bytes_eq-Decides}
use Rattle.qe_aes.specs.declared.schedule.TheConstants.{ROUND_CONSTANTS}
use Rattle.qe_aes.specs.Field.{xor_bytes, sub_byte}
use Rattle.qe_aes.specs.KeySchedule.{word_at, rot_word, sub_word, power_of_x, round_constant, temp_word, next_word, key_words}
use Rattle.qe_aes.specs.KeySchedule.{expansion, key_schedule}
use Rattle.qe_aes.specs.Words.{word_bytes, words_of, key_of}
use Rattle.qe_base.specs.Bytes.{AreBytes}
use Rattle.qe_aes.proofs.ByteLemmas.{AreBytes-nil, AreBytes-cons, AreBytes-append, AreBytes-take, AreBytes-drop, AreBytes-map}
use Rattle.qe_aes.proofs.ByteLemmas.{AreBytes-xor_bytes}
use Rattle.qe_aes.proofs.FieldLemmas.{sub_byte-lt, xtimes-lt}
use Rattle.qe_aes.proofs.WordLemmas.{listed, word_bytes-xor}

-- the table of round constants
pub ROUND_CONSTANTS-power_of_x : (k : ℕ) → k < 7 → word_bytes (slice_index ROUND_CONSTANTS k) ≡ power_of_x k ∷ 0 ∷ 0 ∷ 0 ∷ []
unfolding word_bytes power_of_x
ROUND_CONSTANTS-power_of_x k lt =
    let is_power = λ (i : ℕ). bytes_eq (word_bytes (slice_index ROUND_CONSTANTS i)) (power_of_x i ∷ 0 ∷ 0 ∷ 0 ∷ []) in
    (bytes_eq-Decides (word_bytes (slice_index ROUND_CONSTANTS k)) (power_of_x k ∷ 0 ∷ 0 ∷ 0 ∷ [])).0 (agree_below_at is_power (λ _. true) 7 k refl lt)

-- temp where i is a multiple of 8
pub temp_word-first : (i : ℕ) (w : List ℕ) → i % 8 ≡ 0 → temp_word i w ≡ xor_bytes (sub_word (rot_word w)) (round_constant (i / 8))
unfolding temp_word
temp_word-first i w is = rw is refl

-- temp in the middle between two multiples
pub temp_word-middle : (i : ℕ) (w : List ℕ) → i % 8 ≡ 4 → temp_word i w ≡ sub_word w
unfolding temp_word
temp_word-middle i w is = rw is refl

-- temp elsewhere
pub temp_word-other : (i : ℕ) (w : List ℕ) → i % 8 ≢ 0 → i % 8 ≢ 4 → temp_word i w ≡ w
unfolding temp_word
temp_word-other i w not_first not_middle = grind (arith, nat_tests)

-- one word more is written
pub words_of-push : (words : List ℕ) (i w : ℕ) → i < length words
    → words_of (take (i + 1) (slice_set words i w)) ≡ words_of (take i words) ++ word_bytes w ∷ []
words_of-push words i w lt = ap words_of (take_more_set words i w lt) ∙ map_push word_bytes (take i words) w

-- a word that is written already
word_at-words_of : (words : List ℕ) (i k : ℕ) → i ≤ length words → k < i
    → word_at (words_of (take i words)) k ≡ word_bytes (slice_index words k)
word_at-words_of words i k within lt =
    let long : length (take i words) ≡ i = length-take-le i words within in
    get_or-map word_bytes (take i words) k 0 [] (omega arith) ∙ ap word_bytes (get_or-take i words k 0 lt)

-- one step of the expansion
pub expansion-next : (key words : List ℕ) (i w : ℕ) → 8 ≤ i → i < length words → words_of (take i words) ≡ expansion key (i - 8)
    → word_bytes w ≡ temp_word i (word_bytes (slice_index words (i - 1)))
    → words_of (take (i + 1) (slice_set words i (bit_xor (slice_index words (i - 8)) w))) ≡ expansion key (i + 1 - 8)
unfolding expansion
expansion-next key words i w low lt front temp =
    let place : i ≡ 8 + (i - 8) = omega arith in
    let count : suc (i - 8) ≡ i + 1 - 8 = omega arith in
    let before = expansion key (i - 8) in
    let next = bit_xor (slice_index words (i - 8)) w in
    let at = λ (k : ℕ) (k_lt : k < i). sym (word_at-words_of words i k (omega arith) k_lt) ∙ ap (λ ws. word_at ws k) front in
    let is_next : word_bytes next ≡ next_word before i =
    word_bytes-xor (slice_index words (i - 8)) w ∙ ap (λ b. xor_bytes b (word_bytes w)) (at (i - 8) (omega arith))
    ∙ ap (xor_bytes (word_at before (i - 8))) (temp ∙ ap (temp_word i) (at (i - 1) (omega arith))) in
    words_of-push words i next lt ∙ ap (λ ws. ws ++ word_bytes next ∷ []) front ∙ ap (λ b. before ++ b ∷ []) is_next
    ∙ ap (λ k. before ++ next_word before k ∷ []) place ∙ ap (expansion key) count

-- an expansion has the words of the key
eight_words : (key : List ℕ) (n : ℕ) → 8 ≤ length (expansion key n)
unfolding expansion
eight_words key zero = omega arith
eight_words key (suc n) = omega (arith, eight_words key n, length-append (expansion key n) (next_word (expansion key n) (8 + n) ∷ []))

-- and begins with them
take-expansion : (key : List ℕ) (n : ℕ) → take 8 (expansion key n) ≡ key_words key
unfolding expansion
take-expansion key zero = refl
take-expansion key (suc n) = take-append-le 8 (expansion key n) _ (eight_words key n) ∙ take-expansion key n

-- so the first words of a key's schedule are the key
pub key_of-key_schedule : (words key : List ℕ) → length key ≡ 32 → words_of words ≡ key_schedule key → key_of words ≡ key
unfolding key_schedule
key_of-key_schedule words key long is =
    let IsJoined : List ℕ → Type 0 = λ l. concat (key_words l) ≡ l in
    ap (λ ws. concat (take 8 ws)) is ∙ ap concat (take-expansion key 52) ∙ subst IsJoined (sym (listed key 32 long)) refl

-- all words are made of bytes
abbrev pub AreWords : List (List ℕ) → Type 0
AreWords w = (i : ℕ) → AreBytes (word_at w i)

-- of no words
AreWords-nil : AreWords []
AreWords-nil i = AreBytes-nil

-- with a word before them
AreWords-cons : (x : List ℕ) (ws : List (List ℕ)) → AreBytes x → AreWords ws → AreWords (x ∷ ws)
AreWords-cons x ws bytes words zero = bytes
AreWords-cons x ws bytes words (suc i) = words i

-- with a word behind them
AreWords-push : (ws : List (List ℕ)) (x : List ℕ) → AreWords ws → AreBytes x → AreWords (ws ++ x ∷ [])
AreWords-push [] x words bytes = AreWords-cons x [] bytes words
AreWords-push (w ∷ ws) x words bytes = AreWords-cons w (ws ++ x ∷ []) (words 0) (AreWords-push ws x (λ i. words (suc i)) bytes)

-- given one by one
AreWords-map : (word : ℕ → List ℕ) (is : List ℕ) → ((i : ℕ) → AreBytes (word i)) → AreWords (map word is)
AreWords-map word [] bytes = AreWords-nil
AreWords-map word (i ∷ is) bytes = AreWords-cons (word i) (map word is) (bytes i) (AreWords-map word is bytes)

-- the powers of x are bytes
power_of_x-lt : (i : ℕ) → power_of_x i < 256
unfolding power_of_x
power_of_x-lt zero = lit< tt
power_of_x-lt (suc i) = xtimes-lt (power_of_x i)

-- so are the round constants
AreBytes-round_constant : (j : ℕ) → AreBytes (round_constant j)
AreBytes-round_constant j =
    AreBytes-cons (power_of_x (j - 1)) (0 ∷ 0 ∷ 0 ∷ []) (power_of_x-lt (j - 1))
    (AreBytes-cons 0 (0 ∷ 0 ∷ []) (lit< tt) (AreBytes-cons 0 (0 ∷ []) (lit< tt) (AreBytes-cons 0 [] (lit< tt) AreBytes-nil)))

-- so is temp, of a word of bytes
AreBytes-temp_word : (i : ℕ) (w : List ℕ) → AreBytes w → AreBytes (temp_word i w)
unfolding temp_word
AreBytes-temp_word i w bytes =
    let turned : AreBytes (rot_word w) = AreBytes-append (drop 1 w) (take 1 w) (AreBytes-drop 1 w bytes) (AreBytes-take 1 w bytes) in
    cond_both (i % 8 == 0) _ _ AreBytes
    (λ _. AreBytes-xor_bytes (sub_word (rot_word w)) (round_constant (i / 8)) (AreBytes-map sub_byte (rot_word w) sub_byte-lt turned) (AreBytes-round_constant (i / 8)))
    (λ _. cond_both (i % 8 == 4) _ _ AreBytes (λ _. AreBytes-map sub_byte w sub_byte-lt bytes) (λ _. bytes))

-- so are the words of an expansion
AreWords-expansion : (key : List ℕ) (n : ℕ) → AreBytes key → AreWords (expansion key n)
unfolding expansion
AreWords-expansion key zero bytes =
    AreWords-map (λ i. take 4 (drop (4 * i) key)) (range_with_len 0 8) (λ i. AreBytes-take 4 (drop (4 * i) key) (AreBytes-drop (4 * i) key bytes))
AreWords-expansion key (suc n) bytes =
    let before = expansion key n in
    let words = AreWords-expansion key n bytes in
    let temp = AreBytes-temp_word (8 + n) (word_at before (8 + n - 1)) (words (8 + n - 1)) in
    AreWords-push before (next_word before (8 + n)) words (AreBytes-xor_bytes (word_at before (8 + n - 8)) _ (words (8 + n - 8)) temp)

-- and of a key schedule
pub AreWords-key_schedule : (key : List ℕ) → AreBytes key → AreWords (key_schedule key)
unfolding key_schedule
AreWords-key_schedule key bytes = AreWords-expansion key 52 bytes
