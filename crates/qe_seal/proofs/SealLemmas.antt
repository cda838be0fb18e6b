-- Sealed values, and how they are opened.
use Rattle.std.proofs.Common.{◌≡◌, ℕ, ◌-◌, ◌≤◌, true, false, nat_lt, if◌then◌else◌, List, length, take, drop, Result, Err, ap, sym, ◌∙◌, arith, length-drop}
use Rattle.std.specs.Str.{bytes_eq}
use Rattle.std.proofs.lemmas.Bool.{le-ltb, cond-true, cond-false}
use Rattle.std.proofs.lemmas.List.{take_all}
use Rattle.qe_seal.specs.Cbc.{cbc_decryption}
use Rattle.qe_seal.specs.declared.sealed.SealFault.{SealFault}
use Rattle.qe_seal.specs.declared.sealed.SealFault.TheVariants.{TooShort, MacDiffers}
use Rattle.qe_seal.specs.Sealed.{encryption_key, seal_mac, body_of, stored_mac, seal_answer, opened_value}

-- what is decrypted once the MAC is right
abbrev pub decrypted_body : List ℕ → List ℕ → Result (List ℕ) SealFault
decrypted_body key body = seal_answer (cbc_decryption (encryption_key key) (take 16 body) (drop 16 body))

-- the last 32 bytes of 64 or more
pub take-stored_mac : (bytes : List ℕ) → 64 ≤ length bytes → take 32 (stored_mac bytes) ≡ stored_mac bytes
take-stored_mac bytes long = take_all 32 (stored_mac bytes) (omega (arith, length-drop (length bytes - 32) bytes))

-- the answer, by the two MACs
pub opened_value-is : (key id bytes want got : List ℕ) → 64 ≤ length bytes → want ≡ seal_mac key id (body_of bytes) → got ≡ stored_mac bytes
    → opened_value key id bytes ≡ (if bytes_eq want got then decrypted_body key (body_of bytes) else Err (MacDiffers want got))
unfolding opened_value
opened_value-is key id bytes want got long want_is got_is =
    let answer : List ℕ → List ℕ → Result (List ℕ) SealFault =
    λ w g. if bytes_eq w g then decrypted_body key (body_of bytes) else Err (MacDiffers w g)
    in
    cond-false (nat_lt (length bytes) 64) (Err TooShort) (answer (seal_mac key id (body_of bytes)) (stored_mac bytes)) (le-ltb (length bytes) 64 long)
    ∙ ap (λ w. answer w (stored_mac bytes)) (sym want_is) ∙ ap (λ g. answer want g) (sym got_is)

pub opened_value-differs : (key id bytes want got : List ℕ) → 64 ≤ length bytes → want ≡ seal_mac key id (body_of bytes) → got ≡ stored_mac bytes
    → bytes_eq want got ≡ false → opened_value key id bytes ≡ Err (MacDiffers want got)
opened_value-differs key id bytes want got long want_is got_is differ =
    opened_value-is key id bytes want got long want_is got_is
    ∙ cond-false (bytes_eq want got) (decrypted_body key (body_of bytes)) (Err (MacDiffers want got)) differ

pub opened_value-opens : (key id bytes want got : List ℕ) → 64 ≤ length bytes → want ≡ seal_mac key id (body_of bytes) → got ≡ stored_mac bytes
    → bytes_eq want got ≡ true → opened_value key id bytes ≡ decrypted_body key (body_of bytes)
opened_value-opens key id bytes want got long want_is got_is same =
    opened_value-is key id bytes want got long want_is got_is
    ∙ cond-true (bytes_eq want got) (decrypted_body key (body_of bytes)) (Err (MacDiffers want got)) same
