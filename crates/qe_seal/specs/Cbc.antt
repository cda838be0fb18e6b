-- The CBC mode of NIST SP 800-38A under AES-256, with the padding of RFC 5652.
use Rattle.std.specs.Prelude.{◌≡◌, ℕ, zero, suc, ◌-◌, ◌*◌, ◌/◌, ◌%◌, ◌<◌, List, [], ◌++◌, length, take, drop, replicate, slice_index, Option, Some, None, Result, Ok, Err, ◌==◌, ◌&&◌, Bool, not, nat_le, if◌then◌else◌}
use Rattle.std.specs.List.{list_all}
use Rattle.qe_aes.specs.Field.{xor_bytes}
use Rattle.qe_aes.specs.Cipher.{aes_256, inv_aes_256}
use Rattle.qe_aes.specs.CounterMode.{block_at}
use Rattle.qe_seal.specs.declared.cbc.CbcFault.{CbcFault}
use Rattle.qe_seal.specs.declared.cbc.CbcFault.TheVariants.{BadLength, BadPadding, NoMemory}

-- each cipher block is the cipher of the plain block combined with the cipher block before it, where the IV
-- stands before the first (SP 800-38A, 6.2)
pub record IsCbc (key iv plain cipher : List ℕ) : Type 0 where
  pub same_length : length cipher ≡ length plain
  pub blocks : (i : ℕ) → 16 * i < length plain
      → block_at cipher i ≡ aes_256 key (xor_bytes (block_at plain i) (block_at (iv ++ cipher) i))

-- the cipher of n blocks, behind the cipher block `before`
unfoldable pub cbc_cipher : List ℕ → List ℕ → ℕ → List ℕ → List ℕ
cbc_cipher key before zero plain = []
cbc_cipher key before (suc n) plain = block ++ cbc_cipher key block n (drop 16 plain)
  where
    block : List ℕ
    block = aes_256 key (xor_bytes (take 16 plain) before)

-- the n blocks of which this is the cipher, behind the cipher block `before`
unfoldable pub cbc_plain : List ℕ → List ℕ → ℕ → List ℕ → List ℕ
cbc_plain key before zero cipher = []
cbc_plain key before (suc n) cipher =
    xor_bytes (inv_aes_256 key (take 16 cipher)) before ++ cbc_plain key (take 16 cipher) n (drop 16 cipher)

-- the number of bytes that fill the last block: 1 to 16 (RFC 5652, 6.3)
abbrev pub padding_length : List ℕ → ℕ
padding_length plain = 16 - length plain % 16

-- the bytes, and behind them so many bytes of that value (RFC 5652, 6.3)
unfoldable pub padded_bytes : List ℕ → List ℕ
padded_bytes plain = plain ++ replicate (padding_length plain) (padding_length plain)

-- the value of the last byte
abbrev pub last_byte : List ℕ → ℕ
last_byte bytes = slice_index bytes (length bytes - 1)

-- where the padding begins, by the last byte
abbrev pub padding_start : List ℕ → ℕ
padding_start bytes = length bytes - last_byte bytes

-- whether the last byte b is 1 to 16, and the last b bytes are all b
unfoldable pub ends_in_padding : List ℕ → Bool
ends_in_padding bytes =
    nat_le 1 (last_byte bytes) && nat_le (last_byte bytes) 16
    && list_all (λ byte. byte == last_byte bytes) (drop (padding_start bytes) bytes)

-- the bytes without their padding
unfoldable pub unpadded_bytes : List ℕ → Result (List ℕ) CbcFault
unpadded_bytes bytes = if ends_in_padding bytes then Ok (take (padding_start bytes) bytes) else Err BadPadding

-- the cipher of the padded bytes
unfoldable pub cbc_encryption : List ℕ → List ℕ → List ℕ → List ℕ
cbc_encryption key iv plain = cbc_cipher key iv (length (padded_bytes plain) / 16) (padded_bytes plain)

-- whether bytes are one block or more
abbrev pub are_blocks : List ℕ → Bool
are_blocks bytes = not (length bytes == 0) && (length bytes % 16 == 0)

-- the bytes of which this is the encryption, or why it is none
unfoldable pub cbc_decryption : List ℕ → List ℕ → List ℕ → Result (List ℕ) CbcFault
cbc_decryption key iv bytes =
    if are_blocks bytes then unpadded_bytes (cbc_plain key iv (length bytes / 16) bytes) else Err BadLength

-- a refusal of another cause than want of memory
abbrev pub kept_fault : CbcFault → Option CbcFault
kept_fault NoMemory = None
kept_fault fault = Some fault
