-- A value opens exactly where it is sealed.
use Rattle.std.proofs.Common.{◌≡◌, ℕ, ◌+◌, ◌-◌, ◌/◌, ◌≤◌, nat_lt, List, ◌++◌, length, take, drop, Result, Ok, Err, refl, ap, sym, ◌∙◌, arith, inl, inr, length-append}
use Rattle.std.specs.Str.{bytes_eq}
use Rattle.std.proofs.lemmas.Bool.{cases_Bool, ltb-false, cond-true}
use Rattle.std.proofs.lemmas.Slice.Eq.{bytes_eq-Decides}
use Rattle.std.proofs.lemmas.List.{take_at, drop_at, take-append-drop, length-take-le}
use Rattle.sha2.proofs.Facts256.{length-sha256}
use Rattle.qe_base.specs.Bytes.{AreBytes}
use Rattle.qe_aes.specs.Laws.{IsBlock}
use Rattle.qe_aes.proofs.ByteLemmas.{AreBytes-take, AreBytes-drop}
use Rattle.qe_seal.specs.Hmac.{hmac_sha256}
use Rattle.qe_seal.specs.Cbc.{padded_bytes, cbc_encryption, cbc_decryption}
use Rattle.qe_seal.specs.declared.cbc.CbcFault.{CbcFault}
use Rattle.qe_seal.specs.declared.sealed.SealFault.TheVariants.{TooShort, MacDiffers}
use Rattle.qe_seal.specs.Sealed.{encryption_key, seal_mac, sealed_body, Seals, body_of, stored_mac, seal_answer, opened_value}
use Rattle.qe_seal.proofs.CbcLemmas.{length-padded_bytes}
use Rattle.qe_seal.proofs.RelationLemmas.{length-cbc_cipher}
use Rattle.qe_seal.proofs.CbcLawLemmas.{cbc_decryption-cbc_encryption, cbc_encryption-cbc_decryption}
use Rattle.qe_seal.proofs.SealLemmas.{decrypted_body, opened_value-opens, opened_value-differs}

length-seal_mac : (key id body : List ℕ) → length (seal_mac key id body) ≡ 32
unfolding hmac_sha256 seal_mac
length-seal_mac key id body = length-sha256 _

length-cbc_encryption : (key iv plain : List ℕ) → 16 ≤ length (cbc_encryption key iv plain)
unfolding cbc_encryption
length-cbc_encryption key iv plain =
    omega (arith, length-cbc_cipher key iv (padded_bytes plain) (length (padded_bytes plain) / 16), length-padded_bytes plain)

-- only plain bytes are answered as such
seal_answer-Ok : (answer : Result (List ℕ) CbcFault) (plain : List ℕ) → seal_answer answer ≡ Ok plain → answer ≡ Ok plain
seal_answer-Ok (Ok bytes) plain is = let same : bytes ≡ plain = cc in ap Ok same
seal_answer-Ok (Err fault) plain is = cc

pub opened_value-Seals : (key id iv plain bytes : List ℕ) → AreBytes key → IsBlock iv → AreBytes plain
    → Seals key id iv plain bytes → opened_value key id bytes ≡ Ok plain
unfolding Seals
opened_value-Seals key id iv plain bytes key_bytes iv_block plain_bytes is =
    let cipher = cbc_encryption (encryption_key key) iv plain in
    let body = iv ++ cipher in
    let mac = seal_mac key id body in
    let body_length : length body ≡ 16 + length cipher = length-append iv cipher ∙ ap (λ n. n + length cipher) iv_block.long in
    let mac_length : length mac ≡ 32 = length-seal_mac key id body in
    let long : length bytes ≡ length body + 32 = ap length is ∙ length-append body mac ∙ ap (λ n. length body + n) mac_length in
    let end : length body ≡ length bytes - 32 = omega arith in
    let body_is : body_of bytes ≡ body = ap (take (length bytes - 32)) is ∙ take_at body mac (length bytes - 32) end in
    let mac_is : mac ≡ stored_mac bytes = sym (ap (drop (length bytes - 32)) is ∙ drop_at body mac (length bytes - 32) end) in
    opened_value-opens key id bytes mac mac (omega (arith, length-cbc_encryption (encryption_key key) iv plain)) (ap (seal_mac key id) (sym body_is)) mac_is
    ((bytes_eq-Decides mac mac).1 refl)
    ∙ ap (decrypted_body key) body_is
    ∙ ap (λ b. seal_answer (cbc_decryption (encryption_key key) b (drop 16 body))) (take_at iv cipher 16 iv_block.long)
    ∙ ap (λ b. seal_answer (cbc_decryption (encryption_key key) iv b)) (drop_at iv cipher 16 iv_block.long)
    ∙ ap seal_answer (cbc_decryption-cbc_encryption (encryption_key key) iv plain (AreBytes-take 32 key key_bytes) iv_block plain_bytes)

-- 64 bytes or more whose MAC is right
Seals-opened : (key id plain bytes : List ℕ) → AreBytes key → AreBytes bytes → 64 ≤ length bytes → seal_mac key id (body_of bytes) ≡ stored_mac bytes
    → opened_value key id bytes ≡ Ok plain → (iv : List ℕ) × IsBlock iv × Seals key id iv plain bytes
unfolding Seals
Seals-opened key id plain bytes key_bytes are_bytes long mac_is opens =
    let body = body_of bytes in
    let iv = take 16 body in
    let body_bytes : AreBytes body = AreBytes-take (length bytes - 32) bytes are_bytes in
    let body_length : length body ≡ length bytes - 32 = length-take-le (length bytes - 32) bytes (omega arith) in
    let iv_block : IsBlock iv = record { long = length-take-le 16 body (omega arith); bytes = AreBytes-take 16 body body_bytes } in
    let decrypted : cbc_decryption (encryption_key key) iv (drop 16 body) ≡ Ok plain =
    seal_answer-Ok (cbc_decryption (encryption_key key) iv (drop 16 body)) plain
    (sym (opened_value-opens key id bytes (seal_mac key id body) (stored_mac bytes) long refl refl ((bytes_eq-Decides (seal_mac key id body) (stored_mac bytes)).1 mac_is)) ∙ opens)
    in
    let cipher_is : cbc_encryption (encryption_key key) iv plain ≡ drop 16 body =
    cbc_encryption-cbc_decryption (encryption_key key) iv (drop 16 body) plain (AreBytes-take 32 key key_bytes) iv_block (AreBytes-drop 16 body body_bytes) decrypted
    in
    let body_is : body ≡ sealed_body key iv plain = sym (ap (λ c. iv ++ c) cipher_is ∙ take-append-drop 16 body) in
    (iv, iv_block, sym (take-append-drop (length bytes - 32) bytes) ∙ ap (λ m. body ++ m) (sym mac_is) ∙ ap (λ b. b ++ seal_mac key id b) body_is)

pub Seals-opened_value : (key id plain bytes : List ℕ) → AreBytes key → AreBytes bytes
    → opened_value key id bytes ≡ Ok plain → (iv : List ℕ) × IsBlock iv × Seals key id iv plain bytes
unfolding opened_value
Seals-opened_value key id plain bytes key_bytes are_bytes opens =
    let want = seal_mac key id (body_of bytes) in
    let got = stored_mac bytes in
    elim (cases_Bool (nat_lt (length bytes) 64)) [
      | inl short ↦
          let same : Err TooShort ≡ Ok plain = sym (cond-true (nat_lt (length bytes) 64) (Err TooShort) _ short) ∙ opens in absurd (cc)
      | inr enough ↦
          let long : 64 ≤ length bytes = ltb-false (length bytes) 64 enough in
          elim (cases_Bool (bytes_eq want got)) [
            | inl same_mac ↦ Seals-opened key id plain bytes key_bytes are_bytes long ((bytes_eq-Decides want got).0 same_mac) opens
            | inr differ ↦
                let same : Err (MacDiffers want got) ≡ Ok plain = sym (opened_value-differs key id bytes want got long refl refl differ) ∙ opens in absurd (cc)
          ]
    ]
