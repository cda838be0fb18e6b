-- What is hashed, deciphered and decrypted is bytes.
use Rattle.std.proofs.Common.{◌≡◌, ◌<◌, ◌-◌, ◌*◌, ◌/◌, ◌%◌, ◌==◌, ℕ, zero, suc, List, length, take, drop, not, Result, Ok, Err, refl, ◌∙◌, subst, arith, length-drop}
use Rattle.std.proofs.Math.Nat.{mod-lt}
use Rattle.std.proofs.lemmas.Bool.{and_parts, eqb-true}
use Rattle.std.proofs.lemmas.List.{length-take-le}
use Rattle.std.specs.Int.{byte_at, bytes_high_first, div_ceil}
use Rattle.sha2.specs.Sha256.{digest_bytes, sha256}
use Rattle.qe_base.specs.Bytes.{AreBytes}
use Rattle.qe_aes.specs.Cipher.{aes_256, inv_aes_256}
use Rattle.qe_aes.specs.CounterMode.{counter_block, counter_mode, key_stream}
use Rattle.qe_aes.specs.Field.{xor_bytes}
use Rattle.qe_aes.specs.Laws.{IsBlock}
use Rattle.qe_aes.proofs.ByteLemmas.{AreBytes-append, AreBytes-cons, AreBytes-drop, AreBytes-nil, AreBytes-take, AreBytes-xor_bytes}
use Rattle.qe_aes.proofs.RoundLemmas.{IsBlock-aes_256, IsBlock-inv_aes_256}
use Rattle.qe_seal.specs.Cbc.{cbc_decryption, cbc_plain, ends_in_padding, padding_start, unpadded_bytes}
use Rattle.qe_seal.specs.declared.cbc.CbcFault.{CbcFault}
use Rattle.qe_seal.specs.declared.cbc.CbcFault.TheVariants.{BadPadding}
use Rattle.qe_seal.specs.Hmac.{hmac_sha256, prf1_of}
use Rattle.qe_seal.specs.Sealed.{body_of, encryption_key, opened_value, seal_answer}
use Rattle.qe_opening.proofs.TestLemmas.{passed, past}

byte_lt : (i n : ℕ) → byte_at i n < 256
byte_lt zero n = mod-lt n (omega arith)
byte_lt (suc i) n = mod-lt _ (omega arith)

AreBytes-number : (k n : ℕ) → AreBytes (bytes_high_first k n)
AreBytes-number zero n = AreBytes-nil
AreBytes-number (suc k) n = AreBytes-cons (byte_at k n) (bytes_high_first k n) (byte_lt k n) (AreBytes-number k n)

AreBytes-digest : (words : List ℕ) (n : ℕ) → AreBytes (digest_bytes words n)
unfolding digest_bytes
AreBytes-digest words zero = AreBytes-nil
AreBytes-digest words (suc n) = AreBytes-append (digest_bytes words n) _ (AreBytes-digest words n) (AreBytes-number 4 _)

-- a hash
pub AreBytes-prf1 : (key : List ℕ) (a : ℕ) → AreBytes (prf1_of key a)
unfolding prf1_of hmac_sha256 sha256
AreBytes-prf1 key a = AreBytes-digest _ 8

IsBlock-counter : (iv : List ℕ) (i : ℕ) → IsBlock (counter_block iv i)
unfolding counter_block
IsBlock-counter iv i = record { long = refl; bytes = AreBytes-number 16 _ }

AreBytes-key_stream : (key iv : List ℕ) (n : ℕ) → AreBytes key → AreBytes (key_stream key iv n)
unfolding key_stream
AreBytes-key_stream key iv zero bytes = AreBytes-nil
AreBytes-key_stream key iv (suc n) bytes =
    AreBytes-append (key_stream key iv n) (aes_256 key (counter_block iv n)) (AreBytes-key_stream key iv n bytes)
    (IsBlock-aes_256 key (counter_block iv n) bytes (IsBlock-counter iv n)).bytes

-- bytes deciphered under a key of bytes
pub AreBytes-counter_mode : (key iv bytes : List ℕ) → AreBytes key → AreBytes bytes → AreBytes (counter_mode key iv bytes)
unfolding counter_mode
AreBytes-counter_mode key iv bytes key_bytes are = AreBytes-xor_bytes bytes _ are (AreBytes-key_stream key iv (div_ceil (length bytes) 16) key_bytes)

AreBytes-cbc_plain : (key before : List ℕ) (n : ℕ) (cipher : List ℕ) → AreBytes key → AreBytes before → AreBytes cipher → length cipher ≡ 16 * n
    → AreBytes (cbc_plain key before n cipher)
unfolding cbc_plain
AreBytes-cbc_plain key before zero cipher key_bytes before_bytes bytes long = AreBytes-nil
AreBytes-cbc_plain key before (suc n) cipher key_bytes before_bytes bytes long =
    let first : IsBlock (take 16 cipher) = record { long = length-take-le 16 cipher (omega arith); bytes = AreBytes-take 16 cipher bytes } in
    AreBytes-append (xor_bytes (inv_aes_256 key (take 16 cipher)) before) (cbc_plain key (take 16 cipher) n (drop 16 cipher))
    (AreBytes-xor_bytes (inv_aes_256 key (take 16 cipher)) before (IsBlock-inv_aes_256 key (take 16 cipher) key_bytes first).bytes before_bytes)
    (AreBytes-cbc_plain key (take 16 cipher) n (drop 16 cipher) key_bytes first.bytes (AreBytes-drop 16 cipher bytes) (length-drop 16 cipher ∙ omega arith))

unsealed : (answer : Result (List ℕ) CbcFault) (plain : List ℕ) → seal_answer answer ≡ Ok plain → answer ≡ Ok plain
unsealed (Ok bytes) plain is = cc
unsealed (Err fault) plain is = cc

AreBytes-unpadded : (bytes plain : List ℕ) → AreBytes bytes → unpadded_bytes bytes ≡ Ok plain → AreBytes plain
unfolding unpadded_bytes
AreBytes-unpadded bytes plain are is =
    let front : Ok (take (padding_start bytes) bytes) ≡ Ok plain = (passed (ends_in_padding bytes) BadPadding (Ok (take (padding_start bytes) bytes)) plain is).1 in
    let same : take (padding_start bytes) bytes ≡ plain = cc in
    subst AreBytes same (AreBytes-take (padding_start bytes) bytes are)

AreBytes-decrypted : (key iv bytes plain : List ℕ) → AreBytes key → AreBytes iv → AreBytes bytes → cbc_decryption key iv bytes ≡ Ok plain → AreBytes plain
unfolding cbc_decryption
AreBytes-decrypted key iv bytes plain key_bytes iv_bytes are is =
    let tested = passed _ _ _ plain is in
    let whole : length bytes % 16 ≡ 0 = eqb-true (length bytes % 16) 0 (and_parts (not (length bytes == 0)) (length bytes % 16 == 0) tested.0).1 in
    AreBytes-unpadded (cbc_plain key iv (length bytes / 16) bytes) plain (AreBytes-cbc_plain key iv (length bytes / 16) bytes key_bytes iv_bytes are (omega arith)) tested.1

-- what a sealed value opens to
pub AreBytes-opened : (key id bytes plain : List ℕ) → AreBytes key → AreBytes bytes → opened_value key id bytes ≡ Ok plain → AreBytes plain
unfolding opened_value
AreBytes-opened key id bytes plain key_bytes are is =
    let body = body_of bytes in
    let body_bytes : AreBytes body = AreBytes-take (length bytes - 32) bytes are in
    let opened = unsealed _ plain (passed _ _ _ plain (past _ _ _ plain is)).1 in
    AreBytes-decrypted (encryption_key key) (take 16 body) (drop 16 body) plain (AreBytes-take 32 key key_bytes) (AreBytes-take 16 body body_bytes) (AreBytes-drop 16 body body_bytes) opened
