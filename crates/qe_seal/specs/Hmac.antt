-- HMAC over SHA-256 (RFC 2104). Keys, messages and hashes are lists of bytes.
use Rattle.std.specs.Prelude.{ℕ, ◌-◌, List, ◌++◌, length, map, replicate, bit_xor, nat_lt, if◌then◌else◌}
use Rattle.std.specs.Int.{w64, to_le_bytes}
use Rattle.sha2.specs.Sha256.{sha256}

-- a key longer than a block of 64 bytes is hashed first (section 2)
abbrev pub short_key : List ℕ → List ℕ
short_key key = if nat_lt 64 (length key) then sha256 key else key

-- the key, with zeros to the end of a block (section 2, step 1)
unfoldable pub key_block : List ℕ → List ℕ
key_block key = short_key key ++ replicate (64 - length (short_key key)) 0

-- each byte combined with ipad or opad (section 2, steps 2 and 5)
abbrev pub padded_block : ℕ → List ℕ → List ℕ
padded_block pad block = map (λ byte. bit_xor byte pad) block

-- H(K xor opad, H(K xor ipad, text)) (section 2)
unfoldable pub hmac_sha256 : List ℕ → List ℕ → List ℕ
hmac_sha256 key message = sha256 (padded_block 0x5c (key_block key) ++ sha256 (padded_block 0x36 (key_block key) ++ message))

-- of a number's 8 bytes, the lowest first
unfoldable pub prf1_of : List ℕ → ℕ → List ℕ
prf1_of key a = hmac_sha256 key (to_le_bytes w64 a)

-- of two such numbers, one after the other
unfoldable pub prf2_of : List ℕ → ℕ → ℕ → List ℕ
prf2_of key a b = hmac_sha256 key (to_le_bytes w64 a ++ to_le_bytes w64 b)
