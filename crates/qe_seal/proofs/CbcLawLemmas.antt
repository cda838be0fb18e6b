-- Encryption and decryption undo each other.
use Rattle.std.proofs.Common.{◌≡◌, ℕ, ◌*◌, ◌/◌, ◌%◌, ◌<◌, true, ◌==◌, not, List, length, Ok, Err, ap, sym, ◌∙◌, arith, inl, inr, eq-eqb}
use Rattle.std.proofs.lemmas.Bool.{cases_Bool, and_parts, and_from, not-true, not_from_false, eqb-true, eqb-false, ne_eqb, cond-true, cond-false}
use Rattle.qe_base.specs.Bytes.{AreBytes}
use Rattle.qe_aes.specs.Laws.{IsBlock}
use Rattle.qe_seal.specs.declared.cbc.CbcFault.TheVariants.{BadLength}
use Rattle.qe_seal.specs.Cbc.{IsCbc, cbc_cipher, cbc_plain, padded_bytes, unpadded_bytes, are_blocks, cbc_encryption, cbc_decryption}
use Rattle.qe_seal.proofs.CbcLemmas.{length-padded_bytes}
use Rattle.qe_seal.proofs.RelationLemmas.{length-cbc_cipher, cbc_cipher-IsCbc, only_cbc_cipher}
use Rattle.qe_seal.proofs.InverseLemmas.{cbc_plain-cbc_cipher, cbc_cipher-cbc_plain, length-cbc_plain}
use Rattle.qe_seal.proofs.PaddingLemmas.{bytes-padded_bytes, unpadded_bytes-padded_bytes, padded_bytes-unpadded_bytes}

-- the padded bytes are so many blocks
padded_blocks : (plain : List ℕ) → length (padded_bytes plain) ≡ 16 * (length (padded_bytes plain) / 16)
padded_blocks plain = omega (arith, length-padded_bytes plain)

-- the encryption meets the standard's relation
pub cbc_encryption-IsCbc : (key iv plain : List ℕ) → length iv ≡ 16 → IsCbc key iv (padded_bytes plain) (cbc_encryption key iv plain)
unfolding cbc_encryption
cbc_encryption-IsCbc key iv plain long = cbc_cipher-IsCbc key iv (padded_bytes plain) (length (padded_bytes plain) / 16) long (padded_blocks plain)

-- and nothing else does
pub only_cbc_encryption : (key iv plain cipher : List ℕ) → length iv ≡ 16 → IsCbc key iv (padded_bytes plain) cipher → cipher ≡ cbc_encryption key iv plain
unfolding cbc_encryption
only_cbc_encryption key iv plain cipher long is =
    only_cbc_cipher key iv (padded_bytes plain) cipher (length (padded_bytes plain) / 16) long (padded_blocks plain) is

-- what is deciphered meets it
pub cbc_plain-IsCbc : (key iv cipher : List ℕ) → AreBytes key → IsBlock iv → AreBytes cipher → length cipher % 16 ≡ 0
    → IsCbc key iv (cbc_plain key iv (length cipher / 16) cipher) cipher
cbc_plain-IsCbc key iv cipher key_bytes iv_block bytes blocks =
    let n = length cipher / 16 in
    let long : length cipher ≡ 16 * n = omega arith in
    let plain = cbc_plain key iv n cipher in
    let is : IsCbc key iv plain (cbc_cipher key iv n plain) =
    cbc_cipher-IsCbc key iv plain n iv_block.long (length-cbc_plain key iv cipher n key_bytes iv_block bytes long)
    in
    rw (cbc_cipher-cbc_plain key iv cipher n key_bytes iv_block bytes long) at is

-- blocks, as the code tests for them
are_blocks-from : (bytes : List ℕ) → 0 < length bytes → length bytes % 16 ≡ 0 → are_blocks bytes ≡ true
are_blocks-from bytes some blocks =
    and_from (not (length bytes == 0)) (length bytes % 16 == 0) (not_from_false (length bytes == 0) (ne_eqb (length bytes) 0 (λ none. omega arith)))
    (eq-eqb (length bytes % 16) 0 blocks)

pub cbc_decryption-cbc_encryption : (key iv plain : List ℕ) → AreBytes key → IsBlock iv → AreBytes plain
    → cbc_decryption key iv (cbc_encryption key iv plain) ≡ Ok plain
unfolding cbc_encryption cbc_decryption
cbc_decryption-cbc_encryption key iv plain key_bytes iv_block bytes =
    let padded = padded_bytes plain in
    let n = length padded / 16 in
    let cipher = cbc_cipher key iv n padded in
    let long : length cipher ≡ 16 * n = length-cbc_cipher key iv padded n in
    let some : 0 < n = omega (arith, length-padded_bytes plain) in
    cond-true (are_blocks cipher) (unpadded_bytes (cbc_plain key iv (length cipher / 16) cipher)) (Err BadLength) (are_blocks-from cipher (omega arith) (omega arith))
    ∙ ap (λ k. unpadded_bytes (cbc_plain key iv k cipher)) (omega arith)
    ∙ ap unpadded_bytes (cbc_plain-cbc_cipher key iv padded n key_bytes iv_block (bytes-padded_bytes plain bytes) (padded_blocks plain))
    ∙ unpadded_bytes-padded_bytes plain

pub cbc_encryption-cbc_decryption : (key iv bytes plain : List ℕ) → AreBytes key → IsBlock iv → AreBytes bytes
    → cbc_decryption key iv bytes ≡ Ok plain → cbc_encryption key iv plain ≡ bytes
unfolding cbc_encryption cbc_decryption
cbc_encryption-cbc_decryption key iv bytes plain key_bytes iv_block are_bytes is =
    let n = length bytes / 16 in
    let deciphered = cbc_plain key iv n bytes in
    elim (cases_Bool (are_blocks bytes)) [
      | inl blocks ↦
          let parts = and_parts (not (length bytes == 0)) (length bytes % 16 == 0) blocks in
          let whole : length bytes % 16 ≡ 0 = eqb-true (length bytes % 16) 0 parts.1 in
          let some : length bytes ≡ 0 → ⊥ = eqb-false (length bytes) 0 (not-true (length bytes == 0) parts.0) in
          let long : length bytes ≡ 16 * n = omega arith in
          let same_length : length deciphered ≡ 16 * n = length-cbc_plain key iv bytes n key_bytes iv_block are_bytes long in
          let opened : unpadded_bytes deciphered ≡ Ok plain = sym (cond-true (are_blocks bytes) (unpadded_bytes deciphered) (Err BadLength) blocks) ∙ is in
          ap (λ xs. cbc_cipher key iv (length xs / 16) xs) (padded_bytes-unpadded_bytes deciphered plain (omega arith) (omega arith) opened)
          ∙ ap (λ k. cbc_cipher key iv k deciphered) (omega arith)
          ∙ cbc_cipher-cbc_plain key iv bytes n key_bytes iv_block are_bytes long
      | inr fails ↦
          let same : Err BadLength ≡ Ok plain = sym (cond-false (are_blocks bytes) (unpadded_bytes deciphered) (Err BadLength) fails) ∙ is in cc
    ]
