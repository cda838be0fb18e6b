-- What holds of CBC, besides its definitions.
use Rattle.std.specs.Prelude.{◌≡◌, ℕ, ◌/◌, ◌%◌, List, length, Ok}
use Rattle.qe_base.specs.Bytes.{AreBytes}
use Rattle.qe_aes.specs.Laws.{IsBlock}
use Rattle.qe_seal.specs.Cbc.{IsCbc, cbc_plain, padded_bytes, cbc_encryption, cbc_decryption}

-- the functions make the only lists that the standard's relation allows, and undo each other
pub record CbcLaws : Type 0 where
  pub enciphers : (key iv plain : List ℕ) → length iv ≡ 16 → IsCbc key iv (padded_bytes plain) (cbc_encryption key iv plain)
  pub only : (key iv plain cipher : List ℕ) → length iv ≡ 16 → IsCbc key iv (padded_bytes plain) cipher → cipher ≡ cbc_encryption key iv plain
  pub deciphers : (key iv cipher : List ℕ) → AreBytes key → IsBlock iv → AreBytes cipher → length cipher % 16 ≡ 0
      → IsCbc key iv (cbc_plain key iv (length cipher / 16) cipher) cipher
  pub back : (key iv plain : List ℕ) → AreBytes key → IsBlock iv → AreBytes plain → cbc_decryption key iv (cbc_encryption key iv plain) ≡ Ok plain
  pub forth : (key iv bytes plain : List ℕ) → AreBytes key → IsBlock iv → AreBytes bytes
      → cbc_decryption key iv bytes ≡ Ok plain → cbc_encryption key iv plain ≡ bytes
