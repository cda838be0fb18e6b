-- An IV with bytes in AES-256-CTR behind it, as libmongocrypt keeps the parts of a block and the values of rows.
use Rattle.std.specs.Prelude.{◌≡◌, ℕ, ◌^◌, ◌<◌, List, ◌++◌, length, take, drop}
use Rattle.std.specs.Int.{w64, from_le_bytes, to_le_bytes}
use Rattle.qe_aes.specs.CounterMode.{counter_mode}

-- an IV, and the bytes in AES-256-CTR under it
abbrev pub enciphered : List ℕ → List ℕ → List ℕ → List ℕ
enciphered key iv plain = iv ++ counter_mode key iv plain

-- the bytes that stand behind an IV, deciphered
abbrev pub deciphered : List ℕ → List ℕ → List ℕ
deciphered key bytes = counter_mode key (take 16 bytes) (drop 16 bytes)

-- two numbers of 8 bytes, each with its lowest byte first
unfoldable pub pair_bytes : ℕ → ℕ → List ℕ
pair_bytes first second = to_le_bytes w64 first ++ to_le_bytes w64 second

-- the two numbers that 16 bytes are
unfoldable pub pair_in : List ℕ → ℕ × ℕ
pair_in bytes = (from_le_bytes w64 (take 8 bytes), from_le_bytes w64 (take 8 (drop 8 bytes)))

-- an IV, and two numbers in AES-256-CTR under it
abbrev pub enciphered_pair : List ℕ → List ℕ → ℕ → ℕ → List ℕ
enciphered_pair key iv first second = enciphered key iv (pair_bytes first second)

-- the two numbers that stand behind an IV, deciphered
abbrev pub deciphered_pair : List ℕ → List ℕ → ℕ × ℕ
deciphered_pair key bytes = pair_in (deciphered key bytes)

-- deciphering undoes enciphering under each key and each IV of 16 bytes, of bytes and of numbers below 2^64
pub record CipherLaws : Type 0 where
  pub bytes : (key iv plain : List ℕ) → length iv ≡ 16 → deciphered key (enciphered key iv plain) ≡ plain
  pub pair : (key iv : List ℕ) (first second : ℕ) → length iv ≡ 16 → first < 2 ^ 64 → second < 2 ^ 64
      → deciphered_pair key (enciphered_pair key iv first second) ≡ (first, second)
