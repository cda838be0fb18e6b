-- Sealed values: bytes that are encrypted and authenticated under a key of 96 bytes, whose first 32 are the
-- encryption key and the next 32 the MAC key. They are put together as in RFC 7518, 5.2.2.1, with the whole MAC.
use Rattle.std.specs.Prelude.{◌≡◌, ℕ, ◌-◌, ◌*◌, List, ◌++◌, length, take, drop, Option, Some, None, Result, Ok, Err, nat_lt, if◌then◌else◌}
use Rattle.std.specs.Int.{w64, to_be_bytes}
use Rattle.std.specs.Str.{bytes_eq}
use Rattle.qe_seal.specs.Hmac.{hmac_sha256}
use Rattle.qe_seal.specs.Cbc.{cbc_encryption, cbc_decryption}
use Rattle.qe_seal.specs.declared.cbc.CbcFault.{CbcFault}
use Rattle.qe_seal.specs.declared.cbc.CbcFault.TheVariants as cbc
use Rattle.qe_seal.specs.declared.sealed.SealFault.{SealFault}
use Rattle.qe_seal.specs.declared.sealed.SealFault.TheVariants.{TooShort, MacDiffers, BadLength, BadPadding, NoMemory}

abbrev pub encryption_key : List ℕ → List ℕ
encryption_key key = take 32 key

abbrev pub mac_key : List ℕ → List ℕ
mac_key key = take 32 (drop 32 key)

-- the MAC of the id, the IV and the cipher, and the id's length in bits (RFC 7518, 5.2.2.1, steps 4 and 5)
unfoldable pub seal_mac : List ℕ → List ℕ → List ℕ → List ℕ
seal_mac key id body = hmac_sha256 (mac_key key) (id ++ (body ++ to_be_bytes w64 (8 * length id)))

-- the IV, and the cipher of the padded bytes
abbrev pub sealed_body : List ℕ → List ℕ → List ℕ → List ℕ
sealed_body key iv plain = iv ++ cbc_encryption (encryption_key key) iv plain

-- the bytes are the IV, the cipher of the padded plain bytes, and the MAC
unfoldable pub Seals : List ℕ → List ℕ → List ℕ → List ℕ → List ℕ → Type 0
Seals key id iv plain bytes = bytes ≡ sealed_body key iv plain ++ seal_mac key id (sealed_body key iv plain)

-- all but the last 32 bytes
abbrev pub body_of : List ℕ → List ℕ
body_of bytes = take (length bytes - 32) bytes

-- the last 32 bytes
abbrev pub stored_mac : List ℕ → List ℕ
stored_mac bytes = drop (length bytes - 32) bytes

-- a fault of the cipher, as a fault of the sealed value
abbrev pub seal_fault : CbcFault → SealFault
seal_fault cbc.BadLength = BadLength
seal_fault cbc.BadPadding = BadPadding
seal_fault cbc.NoMemory = NoMemory

abbrev pub seal_answer : Result (List ℕ) CbcFault → Result (List ℕ) SealFault
seal_answer (Ok plain) = Ok plain
seal_answer (Err fault) = Err (seal_fault fault)

-- the bytes that are sealed, or the first fault
unfoldable pub opened_value : List ℕ → List ℕ → List ℕ → Result (List ℕ) SealFault
opened_value key id bytes =
    if nat_lt (length bytes) 64 then Err TooShort
    else (if bytes_eq (seal_mac key id (body_of bytes)) (stored_mac bytes)
    then seal_answer (cbc_decryption (encryption_key key) (take 16 (body_of bytes)) (drop 16 (body_of bytes)))
    else Err (MacDiffers (seal_mac key id (body_of bytes)) (stored_mac bytes)))

-- a refusal of another cause than want of memory
abbrev pub kept_fault : SealFault → Option SealFault
kept_fault NoMemory = None
kept_fault fault = Some fault
