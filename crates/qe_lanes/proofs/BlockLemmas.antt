-- The words of a block, one by one.
use Rattle.std.proofs.Common.{◌≡◌, ℕ, ◌+◌, ◌-◌, ◌*◌, ◌^◌, ◌<◌, ◌≤◌, List, [], ◌∷◌, ◌++◌, length, replicate, bit_xor, slice_index, refl, sym, ap, ◌∙◌, arith, mod-lt, pow_pos, below_more, below_none, length-append, add-one}
use Rattle.std.proofs.lemmas.List.{get_or-map, get_or-replicate, get_or_append_left, get_or-append_right}
use Rattle.std.proofs.lemmas.Grind.{same_number_lists}
use Rattle.std.specs.Int.Bits.{xor_zero_l}
use Rattle.std.proofs.lemmas.Nat.{from_be_bytes-to_be_bytes_4}
use Rattle.std.specs.Int.{w32, from_be_bytes, to_be_bytes}
use Rattle.sha2.specs.Sha256.{compress, digest_bytes, initial_hash_256, padding, word_at}
use Rattle.qe_seal.specs.Hmac.{key_block, padded_block}
use Rattle.qe_lanes.specs.Lanes.{word_in, state_in, HasBlock}

-- what holds at each of eight places
pub below_eight : (P : ℕ → Type 0) → P 0 → P 1 → P 2 → P 3 → P 4 → P 5 → P 6 → P 7 → (k : ℕ) → k < 8 → P k
below_eight P p0 p1 p2 p3 p4 p5 p6 p7 =
    below_more P 7 (below_more P 6 (below_more P 5 (below_more P 4 (below_more P 3 (below_more P 2 (below_more P 1 (below_more P 0 (below_none P) p0) p1) p2) p3) p4) p5) p6) p7

-- a block in a lane, from its words
pub block_of_words : (rows : List (List ℕ)) (lane : ℕ) (block : List ℕ)
    → word_in rows 0 lane ≡ word_at block 0 → word_in rows 1 lane ≡ word_at block 4 → word_in rows 2 lane ≡ word_at block 8
    → word_in rows 3 lane ≡ word_at block 12 → word_in rows 4 lane ≡ word_at block 16 → word_in rows 5 lane ≡ word_at block 20
    → word_in rows 6 lane ≡ word_at block 24 → word_in rows 7 lane ≡ word_at block 28 → word_in rows 8 lane ≡ word_at block 32
    → word_in rows 9 lane ≡ word_at block 36 → word_in rows 10 lane ≡ word_at block 40 → word_in rows 11 lane ≡ word_at block 44
    → word_in rows 12 lane ≡ word_at block 48 → word_in rows 13 lane ≡ word_at block 52 → word_in rows 14 lane ≡ word_at block 56
    → word_in rows 15 lane ≡ word_at block 60 → HasBlock rows lane block
block_of_words rows lane block p0 p1 p2 p3 p4 p5 p6 p7 p8 p9 p10 p11 p12 p13 p14 p15 =
    let P : ℕ → Type 0 = λ k. word_in rows k lane ≡ word_at block (4 * k) in
    record {
      words = below_more P 15 (below_more P 14 (below_more P 13 (below_more P 12 (below_more P 11 (below_more P 10 (below_more P 9 (below_more P 8
          (below_eight P p0 p1 p2 p3 p4 p5 p6 p7) p8) p9) p10) p11) p12) p13) p14) p15;
    }

-- a row of one word
pub all_lanes : (word lane : ℕ) → lane < 16 → slice_index (replicate 16 word) lane ≡ word
all_lanes word lane lt = get_or-replicate 16 lane word 0 lt

-- the words of a hash value are sums, with the carry dropped
pub compress-lt : (h b : List ℕ) (k : ℕ) → k < 8 → slice_index (compress h b) k < 2 ^ 32
unfolding compress
compress-lt h b =
    below_eight (λ k. slice_index (compress h b) k < 2 ^ 32)
    (mod-lt _ (pow_pos 32)) (mod-lt _ (pow_pos 32)) (mod-lt _ (pow_pos 32)) (mod-lt _ (pow_pos 32))
    (mod-lt _ (pow_pos 32)) (mod-lt _ (pow_pos 32)) (mod-lt _ (pow_pos 32)) (mod-lt _ (pow_pos 32))

-- the words of a digest are those of the hash value
pub digest_word : (h b : List ℕ) (k : ℕ) → k < 8 → slice_index (compress h b) k ≡ word_at (digest_bytes (compress h b) 8 ++ padding 96) (4 * k)
unfolding digest_bytes
digest_word h b =
    let back : (k : ℕ) → k < 8 → slice_index (compress h b) k ≡ from_be_bytes w32 (to_be_bytes w32 (slice_index (compress h b) k)) =
    λ k below. sym (from_be_bytes-to_be_bytes_4 (slice_index (compress h b) k) (compress-lt h b k below)) in
    below_eight (λ k. slice_index (compress h b) k ≡ word_at (digest_bytes (compress h b) 8 ++ padding 96) (4 * k))
    (back 0 (omega arith)) (back 1 (omega arith)) (back 2 (omega arith)) (back 3 (omega arith))
    (back 4 (omega arith)) (back 5 (omega arith)) (back 6 (omega arith)) (back 7 (omega arith))

-- the block that a digest ends
pub digest_block_words : (rows : List (List ℕ)) (lane : ℕ) (h b : List ℕ) → lane < 16 → state_in rows lane ≡ compress h b
    → word_in rows 8 lane ≡ 0x80000000 → word_in rows 9 lane ≡ 0 → word_in rows 10 lane ≡ 0 → word_in rows 11 lane ≡ 0
    → word_in rows 12 lane ≡ 0 → word_in rows 13 lane ≡ 0 → word_in rows 14 lane ≡ 0 → word_in rows 15 lane ≡ 768
    → HasBlock rows lane (digest_bytes (compress h b) 8 ++ padding 96)
unfolding digest_bytes
digest_block_words rows lane h b lt is p8 p9 p10 p11 p12 p13 p14 p15 =
    let word : (k : ℕ) → k < 8 → slice_index (state_in rows lane) k ≡ word_at (digest_bytes (compress h b) 8 ++ padding 96) (4 * k) =
    λ k below. ap (λ (state : List ℕ). slice_index state k) is ∙ digest_word h b k below in
    block_of_words rows lane (digest_bytes (compress h b) 8 ++ padding 96)
    (word 0 (omega arith)) (word 1 (omega arith)) (word 2 (omega arith)) (word 3 (omega arith))
    (word 4 (omega arith)) (word 5 (omega arith)) (word 6 (omega arith)) (word 7 (omega arith))
    p8 p9 p10 p11 p12 p13 p14 p15

-- the initial hash value in each lane
pub initial_in : (lane : ℕ) → lane < 16
    → state_in (replicate 16 0x6A09E667 ∷ replicate 16 0xBB67AE85 ∷ replicate 16 0x3C6EF372 ∷ replicate 16 0xA54FF53A
    ∷ replicate 16 0x510E527F ∷ replicate 16 0x9B05688C ∷ replicate 16 0x1F83D9AB ∷ replicate 16 0x5BE0CD19 ∷ []) lane ≡ initial_hash_256
initial_in lane lt =
    λ i. all_lanes 0x6A09E667 lane lt i ∷ all_lanes 0xBB67AE85 lane lt i ∷ all_lanes 0x3C6EF372 lane lt i ∷ all_lanes 0xA54FF53A lane lt i
    ∷ all_lanes 0x510E527F lane lt i ∷ all_lanes 0x9B05688C lane lt i ∷ all_lanes 0x1F83D9AB lane lt i ∷ all_lanes 0x5BE0CD19 lane lt i ∷ []

-- a key of 32 bytes fills half of its block
key_block_of : (key : List ℕ) → length key ≡ 32 → key_block key ≡ key ++ replicate 32 0
unfolding key_block
key_block_of key long = rw (long, long) refl

-- the bytes of a key's block, combined with a pad
pub padded_front : (key : List ℕ) (pad at : ℕ) → length key ≡ 32 → at < 32 → bit_xor (slice_index key at) pad ≡ slice_index (padded_block pad (key_block key)) at
padded_front key pad at long below =
    let block = key ++ replicate 32 0 in
    let within : at < length block = omega (arith, length-append key (replicate 32 0)) in
    sym (ap (λ (bytes : List ℕ). slice_index (padded_block pad bytes) at) (key_block_of key long)
    ∙ get_or-map (λ byte. bit_xor byte pad) block at 0 0 within
    ∙ ap (λ byte. bit_xor byte pad) (get_or_append_left key (replicate 32 0) 0 at (omega arith)))

-- those behind the key
pub padded_rest : (key : List ℕ) (pad at : ℕ) → length key ≡ 32 → 32 ≤ at → at < 64 → pad ≡ slice_index (padded_block pad (key_block key)) at
padded_rest key pad at long low high =
    let block = key ++ replicate 32 0 in
    let within : at < length block = omega (arith, length-append key (replicate 32 0)) in
    let zero : slice_index block at ≡ 0 =
    get_or-append_right key (replicate 32 0) 32 at 0 long low ∙ get_or-replicate 32 (at - 32) 0 0 (omega arith) in
    sym (ap (λ (bytes : List ℕ). slice_index (padded_block pad bytes) at) (key_block_of key long)
    ∙ get_or-map (λ byte. bit_xor byte pad) block at 0 0 within
    ∙ ap (λ byte. bit_xor byte pad) zero ∙ xor_zero_l pad)

-- a list of eight numbers, one by one
pub eight_words : (state : List ℕ) → length state ≡ 8
    → slice_index state 0 ∷ slice_index state 1 ∷ slice_index state 2 ∷ slice_index state 3
    ∷ slice_index state 4 ∷ slice_index state 5 ∷ slice_index state 6 ∷ slice_index state 7 ∷ [] ≡ state
eight_words state long =
    let words = slice_index state 0 ∷ slice_index state 1 ∷ slice_index state 2 ∷ slice_index state 3
    ∷ slice_index state 4 ∷ slice_index state 5 ∷ slice_index state 6 ∷ slice_index state 7 ∷ [] in
    same_number_lists words state (sym long) (below_eight (λ k. slice_index words k ≡ slice_index state k) refl refl refl refl refl refl refl refl)

-- one word more of a digest
pub digest_next : (state : List ℕ) (n : ℕ) → digest_bytes state (n + 1) ≡ digest_bytes state n ++ to_be_bytes w32 (slice_index state n)
unfolding digest_bytes
digest_next state n = rw add-one refl
