-- Deciphering undoes enciphering, and the other way round.
use Rattle.std.proofs.Common.{◌≡◌, ℕ, zero, suc, ◌*◌, ◌≤◌, List, [], ◌++◌, length, take, drop, refl, ap, ◌∙◌, arith, length-append, length-drop}
use Rattle.std.proofs.lemmas.List.{take_at, drop_at, take-append-drop, length-take-le}
use Rattle.qe_aes.specs.Field.{xor_bytes}
use Rattle.qe_aes.specs.Cipher.{aes_256, inv_aes_256}
use Rattle.qe_base.specs.Bytes.{AreBytes}
use Rattle.qe_aes.specs.Laws.{IsBlock}
use Rattle.qe_aes.proofs.ByteLemmas.{AreBytes-take, AreBytes-drop, AreBytes-xor_bytes}
use Rattle.qe_aes.proofs.XorLemmas.{length-xor_bytes, xor_bytes-xor_bytes}
use Rattle.qe_aes.proofs.RoundLemmas.{IsBlock-aes_256, IsBlock-inv_aes_256, inv_aes_256-aes_256, aes_256-inv_aes_256}
use Rattle.qe_seal.specs.Cbc.{cbc_cipher, cbc_plain}

-- the first block of a list that has one
block-take : (xs : List ℕ) → AreBytes xs → 16 ≤ length xs → IsBlock (take 16 xs)
block-take xs bytes within = record { long = length-take-le 16 xs within; bytes = AreBytes-take 16 xs bytes }

-- the sum of two blocks
block-xor_bytes : (xs ys : List ℕ) → IsBlock xs → IsBlock ys → IsBlock (xor_bytes xs ys)
block-xor_bytes xs ys is also = record {
  long = length-xor_bytes xs ys (omega (arith, is.long, also.long)) ∙ is.long;
  bytes = AreBytes-xor_bytes xs ys is.bytes also.bytes;
}

-- a block that is summed twice with another
undo_xor : (xs ys : List ℕ) → IsBlock xs → IsBlock ys → xor_bytes (xor_bytes xs ys) ys ≡ xs
undo_xor xs ys is also = xor_bytes-xor_bytes xs ys (omega (arith, is.long, also.long))

pub cbc_plain-cbc_cipher : (key before xs : List ℕ) (n : ℕ) → AreBytes key → IsBlock before → AreBytes xs → length xs ≡ 16 * n
    → cbc_plain key before n (cbc_cipher key before n xs) ≡ xs
unfolding cbc_cipher cbc_plain
cbc_plain-cbc_cipher key before xs zero key_bytes before_block bytes long = take_at xs [] 0 long
cbc_plain-cbc_cipher key before xs (suc n) key_bytes before_block bytes long =
    let first = take 16 xs in
    let sum = xor_bytes first before in
    let block = aes_256 key sum in
    let rest = cbc_cipher key block n (drop 16 xs) in
    let first_block : IsBlock first = block-take xs bytes (omega arith) in
    let sum_block : IsBlock sum = block-xor_bytes first before first_block before_block in
    let is_block : IsBlock block = IsBlock-aes_256 key sum key_bytes sum_block in
    ap (λ b. xor_bytes (inv_aes_256 key b) before ++ cbc_plain key b n (drop 16 (block ++ rest))) (take_at block rest 16 is_block.long)
    ∙ ap (λ ys. xor_bytes (inv_aes_256 key block) before ++ cbc_plain key block n ys) (drop_at block rest 16 is_block.long)
    ∙ ap (λ p. xor_bytes p before ++ cbc_plain key block n rest) (inv_aes_256-aes_256 key sum key_bytes sum_block)
    ∙ ap (λ p. p ++ cbc_plain key block n rest) (undo_xor first before first_block before_block)
    ∙ ap (λ ys. first ++ ys)
    (cbc_plain-cbc_cipher key block (drop 16 xs) n key_bytes is_block (AreBytes-drop 16 xs bytes) (length-drop 16 xs ∙ omega arith))
    ∙ take-append-drop 16 xs

pub cbc_cipher-cbc_plain : (key before ys : List ℕ) (n : ℕ) → AreBytes key → IsBlock before → AreBytes ys → length ys ≡ 16 * n
    → cbc_cipher key before n (cbc_plain key before n ys) ≡ ys
unfolding cbc_cipher cbc_plain
cbc_cipher-cbc_plain key before ys zero key_bytes before_block bytes long = take_at ys [] 0 long
cbc_cipher-cbc_plain key before ys (suc n) key_bytes before_block bytes long =
    let first = take 16 ys in
    let opened = inv_aes_256 key first in
    let sum = xor_bytes opened before in
    let rest = cbc_plain key first n (drop 16 ys) in
    let first_block : IsBlock first = block-take ys bytes (omega arith) in
    let opened_block : IsBlock opened = IsBlock-inv_aes_256 key first key_bytes first_block in
    let sum_block : IsBlock sum = block-xor_bytes opened before opened_block before_block in
    let enciphered : aes_256 key (xor_bytes (take 16 (sum ++ rest)) before) ≡ first =
    ap (λ p. aes_256 key (xor_bytes p before)) (take_at sum rest 16 sum_block.long)
    ∙ ap (aes_256 key) (undo_xor opened before opened_block before_block)
    ∙ aes_256-inv_aes_256 key first key_bytes first_block
    in
    ap (λ b. b ++ cbc_cipher key b n (drop 16 (sum ++ rest))) enciphered
    ∙ ap (λ xs. first ++ cbc_cipher key first n xs) (drop_at sum rest 16 sum_block.long)
    ∙ ap (λ xs. first ++ xs)
    (cbc_cipher-cbc_plain key first (drop 16 ys) n key_bytes first_block (AreBytes-drop 16 ys bytes) (length-drop 16 ys ∙ omega arith))
    ∙ take-append-drop 16 ys

-- deciphering keeps the length
pub length-cbc_plain : (key before ys : List ℕ) (n : ℕ) → AreBytes key → IsBlock before → AreBytes ys → length ys ≡ 16 * n
    → length (cbc_plain key before n ys) ≡ 16 * n
unfolding cbc_plain
length-cbc_plain key before ys zero key_bytes before_block bytes long = refl
length-cbc_plain key before ys (suc n) key_bytes before_block bytes long =
    let first = take 16 ys in
    let opened = inv_aes_256 key first in
    let first_block : IsBlock first = block-take ys bytes (omega arith) in
    let sum_block : IsBlock (xor_bytes opened before) = block-xor_bytes opened before (IsBlock-inv_aes_256 key first key_bytes first_block) before_block in
    length-append (xor_bytes opened before) (cbc_plain key first n (drop 16 ys))
    ∙ omega (arith, sum_block.long, length-cbc_plain key first (drop 16 ys) n key_bytes first_block (AreBytes-drop 16 ys bytes) (length-drop 16 ys ∙ omega arith))
