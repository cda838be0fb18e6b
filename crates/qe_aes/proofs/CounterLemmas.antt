-- The counter mode: its loop, and its laws.
use Rattle.std.proofs.Common.{◌≡◌, ◌+◌, ◌-◌, ◌*◌, ◌/◌, ◌%◌, ◌<◌, ◌≤◌, ℕ, zero, suc, List, [], ◌++◌, length, take, drop, refl, ap}
use Rattle.std.proofs.Common.{sym, ◌∙◌, arith, inl, inr, add-one, get_or, length-append, length-drop}
use Rattle.std.specs.Int.{div_ceil}
use Rattle.std.proofs.lemmas.Bool.{cases_lt}
use Rattle.std.proofs.lemmas.List.{append-nil, drop_all, take_all, drop_at, drop-append-le, take-append-le, get_or-take}
use Rattle.std.proofs.lemmas.List.{get_or-drop, same_lists, take_rest}
use borrow.Rule.Slice.PartMut.{put_mid}
use Rattle.qe_aes.specs.Field.{xor_bytes}
use Rattle.qe_aes.specs.Cipher.{cipher, aes_256}
use Rattle.qe_aes.specs.CounterMode.{counter_block, block_at, IsCounterMode, key_stream, counter_mode}
use Rattle.qe_aes.proofs.XorLemmas.{length-xor_bytes, take-xor_bytes, drop-xor_bytes, xor_bytes-xor_bytes, xored_front, xored_front-append}

-- the length of a cipher block
pub length-aes_256 : (key block : List ℕ) → length (aes_256 key block) ≡ 16
unfolding cipher aes_256
length-aes_256 key block = refl

-- n of them
length-key_stream : (key iv : List ℕ) (n : ℕ) → length (key_stream key iv n) ≡ 16 * n
unfolding key_stream
length-key_stream key iv zero = refl
length-key_stream key iv (suc n) =
    length-append (key_stream key iv n) (aes_256 key (counter_block iv n))
    ∙ omega (arith, length-key_stream key iv n, length-aes_256 key (counter_block iv n))

-- block i of a stream
block_at-key_stream : (key iv : List ℕ) (n i : ℕ) → i < n → block_at (key_stream key iv n) i ≡ aes_256 key (counter_block iv i)
unfolding key_stream
block_at-key_stream key iv zero i lt = absurd (omega arith)
block_at-key_stream key iv (suc n) i lt =
    let stream = key_stream key iv n in
    let block = aes_256 key (counter_block iv n) in
    let long : length stream ≡ 16 * n = length-key_stream key iv n in
    elim (cases_lt i n) [
      | inl before ↦
          ap (take 16) (drop-append-le (16 * i) stream block (omega arith))
          ∙ take-append-le 16 (drop (16 * i) stream) block (omega (arith, length-drop (16 * i) stream))
          ∙ block_at-key_stream key iv n i before
      | inr from ↦
          let last : i ≡ n = omega arith in
          ap (take 16) (drop_at stream block (16 * i) (omega arith)) ∙ take_all 16 block (omega (arith, length-aes_256 key (counter_block iv n)))
          ∙ ap (λ k. aes_256 key (counter_block iv k)) (sym last)
    ]

-- the loop of the counter mode, one block further
pub xored_front-key_stream : (key iv bytes now part : List ℕ) (i : ℕ) → 16 * i ≤ length now → length now ≡ length bytes
    → now ≡ xored_front bytes (key_stream key iv i)
    → part ≡ xored_front (take (length now - 16 * i) (drop (16 * i) now)) (aes_256 key (counter_block iv i))
    → put_mid (16 * i) (length now - 16 * i) now part ≡ xored_front bytes (key_stream key iv (i + 1))
unfolding key_stream
xored_front-key_stream key iv bytes now part i within same_length before part_is =
    let stream = key_stream key iv i in
    let block = aes_256 key (counter_block iv i) in
    let long : length stream ≡ 16 * i = length-key_stream key iv i in
    let nothing_past : drop (length now - 16 * i) (drop (16 * i) now) ≡ [] =
    drop_all (length now - 16 * i) (drop (16 * i) now) (omega (arith, length-drop (16 * i) now)) in
    ap (λ rest. take (16 * i) now ++ (part ++ rest)) nothing_past
    ∙ ap (λ zs. take (16 * i) now ++ zs) (append-nil part ∙ part_is ∙ ap (λ zs. xored_front zs block) (take_rest now (16 * i)))
    ∙ ap (λ zs. take (16 * i) zs ++ xored_front (drop (16 * i) zs) block) before
    ∙ ap (λ n. take n (xored_front bytes stream) ++ xored_front (drop n (xored_front bytes stream)) block) (sym long)
    ∙ xored_front-append bytes stream block (omega arith)
    ∙ ap (λ n. xored_front bytes (key_stream key iv n)) (sym (add-one i))

-- the stream is no shorter than the bytes
enough_blocks : (key iv bytes : List ℕ) → length bytes ≤ length (key_stream key iv (div_ceil (length bytes) 16))
enough_blocks key iv bytes = omega (arith, length-key_stream key iv (div_ceil (length bytes) 16))

-- the end of the loop
pub xored_front-counter_mode : (key iv bytes : List ℕ) → xored_front bytes (key_stream key iv (div_ceil (length bytes) 16)) ≡ counter_mode key iv bytes
unfolding counter_mode
xored_front-counter_mode key iv bytes =
    let stream = key_stream key iv (div_ceil (length bytes) 16) in
    ap (λ rest. xor_bytes bytes stream ++ rest) (drop_all (length stream) bytes (enough_blocks key iv bytes)) ∙ append-nil (xor_bytes bytes stream)

-- what the counter mode makes is as long as the bytes
length-counter_mode : (key iv bytes : List ℕ) → length (counter_mode key iv bytes) ≡ length bytes
unfolding counter_mode
length-counter_mode key iv bytes = length-xor_bytes bytes (key_stream key iv (div_ceil (length bytes) 16)) (enough_blocks key iv bytes)

-- it is its own inverse
pub counter_mode-counter_mode : (key iv bytes : List ℕ) → counter_mode key iv (counter_mode key iv bytes) ≡ bytes
unfolding counter_mode
counter_mode-counter_mode key iv bytes =
    ap (λ n. xor_bytes (counter_mode key iv bytes) (key_stream key iv (div_ceil n 16))) (length-counter_mode key iv bytes)
    ∙ xor_bytes-xor_bytes bytes (key_stream key iv (div_ceil (length bytes) 16)) (enough_blocks key iv bytes)

-- each block is combined with its cipher block
counter_mode-blocks : (key iv bytes : List ℕ) (i : ℕ)
    → block_at (counter_mode key iv bytes) i ≡ xor_bytes (block_at bytes i) (aes_256 key (counter_block iv i))
unfolding counter_mode xor_bytes
counter_mode-blocks key iv bytes i =
    let n = div_ceil (length bytes) 16 in
    let stream = key_stream key iv n in
    ap (take 16) (drop-xor_bytes (16 * i) bytes stream) ∙ take-xor_bytes 16 (drop (16 * i) bytes) (drop (16 * i) stream)
    ∙ elim (cases_lt i n) [
      | inl within ↦ ap (xor_bytes (block_at bytes i)) (block_at-key_stream key iv n i within)
      | inr past ↦
          let none : drop (16 * i) bytes ≡ [] = drop_all (16 * i) bytes (omega arith) in
          ap (λ zs. xor_bytes (take 16 zs) (block_at stream i)) none
          ∙ sym (ap (λ zs. xor_bytes (take 16 zs) (aes_256 key (counter_block iv i))) none)
    ]

-- so it meets the standard's relation
pub counter_mode-IsCounterMode : (key iv bytes : List ℕ) → IsCounterMode key iv bytes (counter_mode key iv bytes)
counter_mode-IsCounterMode key iv bytes = record { same_length = length-counter_mode key iv bytes; blocks = counter_mode-blocks key iv bytes }

-- an element of a block
get_or-block_at : (xs : List ℕ) (k d : ℕ) → get_or (block_at xs (k / 16)) (k % 16) d ≡ get_or xs k d
get_or-block_at xs k d =
    let place : 16 * (k / 16) + k % 16 ≡ k = omega arith in
    get_or-take 16 (drop (16 * (k / 16)) xs) (k % 16) d (omega arith) ∙ get_or-drop (16 * (k / 16)) xs (k % 16) d
    ∙ ap (λ j. get_or xs j d) place

-- lists of the same blocks are the same
same_blocks : (xs ys : List ℕ) → length xs ≡ length ys → ((i : ℕ) → block_at xs i ≡ block_at ys i) → xs ≡ ys
same_blocks xs ys same_length same =
    same_lists xs ys same_length
    (λ k d lt. sym (get_or-block_at xs k d) ∙ ap (λ b. get_or b (k % 16) d) (same (k / 16)) ∙ get_or-block_at ys k d)

-- and nothing else does
pub only_counter_mode : (key iv bytes other : List ℕ) → IsCounterMode key iv bytes other → other ≡ counter_mode key iv bytes
only_counter_mode key iv bytes other is =
    same_blocks other (counter_mode key iv bytes) (is.same_length ∙ sym (length-counter_mode key iv bytes))
    (λ i. is.blocks i ∙ sym (counter_mode-blocks key iv bytes i))
