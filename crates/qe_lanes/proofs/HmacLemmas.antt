-- HMAC of a short message is four compressions.
use Rattle.std.proofs.Common.{◌≡◌, ℕ, ◌+◌, ◌-◌, ◌/◌, ◌≤◌, List, ◌++◌, length, take, drop, replicate, nat_lt, cond, Bool, true, false, refl, ap, ◌∙◌, arith, length-append}
use Rattle.std.proofs.lemmas.List.{append_assoc, take_all, take_at, drop_at, length-map, length-replicate}
use Rattle.std.proofs.lemmas.Bool.{ltb-false}
use Rattle.sha2.specs.Sha256.{compress, digest_bytes, hash_after, initial_hash_256, padded_message, padding, sha256}
use Rattle.sha2.proofs.Facts256.{length-sha256}
use Rattle.qe_seal.specs.Hmac.{hmac_sha256, key_block, padded_block, short_key}
use Rattle.qe_lanes.specs.Keys.{pad_state}

-- a message that ends with the block behind its first 64 bytes
pub two_blocks : (front message : List ℕ) → length front ≡ 64 → length (message ++ padding (64 + length message)) ≡ 64
    → sha256 (front ++ message) ≡ digest_bytes (compress (compress initial_hash_256 front) (message ++ padding (64 + length message))) 8
unfolding sha256 hash_after
two_blocks front message long fits =
    let block = message ++ padding (64 + length message) in
    let count : length (front ++ message) ≡ 64 + length message = omega (arith, length-append front message) in
    let whole : padded_message (front ++ message) ≡ front ++ block =
    ap (λ (n : ℕ). (front ++ message) ++ padding n) count ∙ append_assoc front message (padding (64 + length message)) in
    let two : length (front ++ block) / 64 ≡ 2 = omega (arith, length-append front block) in
    let first : take 64 (front ++ block) ≡ front = take_at front block 64 (omega arith) in
    let second : take 64 (drop 64 (front ++ block)) ≡ block = ap (take 64) (drop_at front block 64 (omega arith)) ∙ take_all 64 block (omega arith) in
    ap (λ (bytes : List ℕ). digest_bytes (hash_after initial_hash_256 bytes (length bytes / 64)) 8) whole
    ∙ ap (λ (n : ℕ). digest_bytes (hash_after initial_hash_256 (front ++ block) n) 8) two
    ∙ (λ i. digest_bytes (compress (compress initial_hash_256 (first i)) (second i)) 8)

-- a list that is short where a test fails, and else 32 bytes
short_where : (test : Bool) (digest key : List ℕ) → length digest ≡ 32 → (test ≡ false → length key ≤ 64) → length (cond test digest key) ≤ 64
short_where true digest key long else_short = omega arith
short_where false digest key long else_short = else_short refl

-- a key's block has 64 bytes
length-key_block : (key : List ℕ) → length (key_block key) ≡ 64
unfolding key_block
length-key_block key =
    let short : length (short_key key) ≤ 64 = short_where (nat_lt 64 (length key)) (sha256 key) key (length-sha256 key) (ltb-false 64 (length key)) in
    omega (arith, length-append (short_key key) (replicate (64 - length (short_key key)) 0), length-replicate {A = ℕ} (64 - length (short_key key)) 0)

length-padded_block : (pad : ℕ) (key : List ℕ) → length (padded_block pad (key_block key)) ≡ 64
length-padded_block pad key = length-map (key_block key) _ ∙ length-key_block key

pub hmac_by_blocks : (key message : List ℕ) → length (message ++ padding (64 + length message)) ≡ 64
    → hmac_sha256 key message ≡ digest_bytes (compress (pad_state 0x5c key)
    (digest_bytes (compress (pad_state 0x36 key) (message ++ padding (64 + length message))) 8 ++ padding 96)) 8
unfolding hmac_sha256
hmac_by_blocks key message fits =
    let inner = padded_block 0x36 (key_block key) in
    let outer = padded_block 0x5c (key_block key) in
    let digest = sha256 (inner ++ message) in
    let short : length digest ≡ 32 = length-sha256 (inner ++ message) in
    let fits_too : length (digest ++ padding (64 + length digest)) ≡ 64 =
    ap (λ (n : ℕ). length (digest ++ padding (64 + n))) short ∙ length-append digest (padding 96) ∙ ap (λ (n : ℕ). n + 32) short in
    two_blocks outer digest (length-padded_block 0x5c key) fits_too
    ∙ ap (λ (n : ℕ). digest_bytes (compress (pad_state 0x5c key) (digest ++ padding (64 + n))) 8) short
    ∙ ap (λ (bytes : List ℕ). digest_bytes (compress (pad_state 0x5c key) (bytes ++ padding 96)) 8) (two_blocks inner message (length-padded_block 0x36 key) fits)
