-- How many bytes tokens, ciphers and sealed values have.
use Rattle.std.proofs.Common.{◌≡◌, ℕ, ◌+◌, ◌*◌, ◌/◌, ◌≤◌, List, [], ◌∷◌, ◌++◌, length, Option, None, Some, ap, ◌∙◌, arith, length-append}
use Rattle.sha2.proofs.Facts256.{length-sha256}
use Rattle.qe_aes.specs.CounterMode.{counter_mode}
use Rattle.qe_aes.proofs.CounterLemmas.{counter_mode-IsCounterMode}
use Rattle.qe_seal.specs.Cbc.{cbc_encryption, padded_bytes}
use Rattle.qe_seal.specs.Enciphered.{enciphered}
use Rattle.qe_seal.specs.Hmac.{hmac_sha256, prf1_of}
use Rattle.qe_seal.specs.Sealed.{encryption_key, seal_mac, sealed_body}
use Rattle.qe_seal.proofs.CbcLemmas.{length-padded_bytes}
use Rattle.qe_seal.proofs.RelationLemmas.{length-cbc_cipher}
use Rattle.qe_ecoc.specs.Forms.{cipher_bytes}
use Rattle.qe_ecoc.specs.Opening.{written}
use Rattle.qe_fits.specs.Sizes.{sealed_size}

pub length-hmac : (key message : List ℕ) → length (hmac_sha256 key message) ≡ 32
unfolding hmac_sha256
length-hmac key message = length-sha256 _

pub length-prf1 : (key : List ℕ) (a : ℕ) → length (prf1_of key a) ≡ 32
unfolding prf1_of
length-prf1 key a = length-hmac key _

length-mac : (key id body : List ℕ) → length (seal_mac key id body) ≡ 32
unfolding seal_mac
length-mac key id body = length-hmac _ _

-- an IV, whole blocks with their padding, and the MAC
pub length-sealed : (key id iv plain : List ℕ) → length iv ≡ 16
    → length (sealed_body key iv plain ++ seal_mac key id (sealed_body key iv plain)) ≡ sealed_size (length plain)
unfolding cbc_encryption
length-sealed key id iv plain long =
    let cipher = cbc_encryption (encryption_key key) iv plain in
    let body = iv ++ cipher in
    let blocks = length (padded_bytes plain) / 16 in
    let of_cipher = length-cbc_cipher (encryption_key key) iv (padded_bytes plain) blocks in
    omega (arith, length-append body (seal_mac key id body), length-append iv cipher, length-mac key id body, of_cipher, length-padded_bytes plain, long)

length-enciphered : (key iv plain : List ℕ) → length iv ≡ 16 → length (enciphered key iv plain) ≡ 16 + length plain
length-enciphered key iv plain long =
    length-append iv (counter_mode key iv plain) ∙ omega (arith, (counter_mode-IsCounterMode key iv plain).same_length, long)

-- an IV and a token, and maybe a leaf byte
pub length-old : (key iv token : List ℕ) → length iv ≡ 16 → length token ≡ 32 → length (cipher_bytes (written key iv token None)) ≡ 48
length-old key iv token iv_long long = length-enciphered key iv token iv_long ∙ omega (arith, long)

pub length-written : (key iv token : List ℕ) (leaf : Option ℕ) → length iv ≡ 16 → length token ≡ 32 → length (cipher_bytes (written key iv token leaf)) ≤ 49
length-written key iv token None iv_long long = let is = length-old key iv token iv_long long in omega (arith, is)
length-written key iv token (Some leaf) iv_long long =
    let is = length-enciphered key iv (token ++ leaf ∷ []) iv_long in
    omega (arith, is, length-append token (leaf ∷ []), long)
