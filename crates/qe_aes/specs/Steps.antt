-- The steps of FIPS 197 on the state (sections as in the edition of 2023). A state is the list of its
-- 16 bytes in the order of the block: the byte in row r and column c stands at r + 4c (3.4).
use Rattle.std.specs.Prelude.{ℕ, ◌+◌, ◌-◌, ◌*◌, ◌/◌, ◌%◌, List, [], ◌∷◌, map, slice_index, bit_xor}
use Rattle.std.specs.List.{range_with_len}
use Rattle.qe_aes.specs.Field.{product, sub_byte, inv_sub_byte}
use Rattle.qe_aes.specs.KeySchedule.{word_at}

-- the byte in row r and column c
abbrev pub at : List ℕ → ℕ → ℕ → ℕ
at s r c = slice_index s (r + 4 * c)

-- the state whose byte in row r and column c is `byte r c`
abbrev pub state_of : (ℕ → ℕ → ℕ) → List ℕ
state_of byte = map (λ k. byte (k % 4) (k / 4)) (range_with_len 0 16)

-- SUBBYTES (5.1.1)
abbrev pub sub_bytes : List ℕ → List ℕ
sub_bytes s = state_of (λ r c. sub_byte (at s r c))

-- INVSUBBYTES (5.3.2)
abbrev pub inv_sub_bytes : List ℕ → List ℕ
inv_sub_bytes s = state_of (λ r c. inv_sub_byte (at s r c))

-- SHIFTROWS (5.1.2)
abbrev pub shift_rows : List ℕ → List ℕ
shift_rows s = state_of (λ r c. at s r ((c + r) % 4))

-- INVSHIFTROWS (5.3.1)
abbrev pub inv_shift_rows : List ℕ → List ℕ
inv_shift_rows s = state_of (λ r c. at s r ((c + 4 - r) % 4))

-- row r of a column times the matrix made of a0, .., a3: the sum of its bytes j times a[r - j mod 4] (4.3)
abbrev pub mixed_row : List ℕ → ℕ → List ℕ → ℕ
mixed_row a r column = bit_xor (bit_xor (bit_xor (term 0) (term 1)) (term 2)) (term 3)
  where
    term : ℕ → ℕ
    term j = product (slice_index column j) (slice_index a ((r + 4 - j) % 4))

-- column c of a state
abbrev pub column_of : List ℕ → ℕ → List ℕ
column_of s c = at s 0 c ∷ at s 1 c ∷ at s 2 c ∷ at s 3 c ∷ []

-- each column of a state times the matrix made of a0, .., a3
abbrev pub mixed : List ℕ → List ℕ → List ℕ
mixed a s = state_of (λ r c. mixed_row a r (column_of s c))

-- what MIXCOLUMNS and INVMIXCOLUMNS make their matrices of (5.1.3, 5.3.3)
abbrev pub mix_factors : List ℕ
mix_factors = 0x02 ∷ 0x01 ∷ 0x01 ∷ 0x03 ∷ []

abbrev pub inv_mix_factors : List ℕ
inv_mix_factors = 0x0e ∷ 0x09 ∷ 0x0d ∷ 0x0b ∷ []

-- MIXCOLUMNS (5.1.3)
abbrev pub mix_columns : List ℕ → List ℕ
mix_columns s = mixed mix_factors s

-- INVMIXCOLUMNS (5.3.3)
abbrev pub inv_mix_columns : List ℕ → List ℕ
inv_mix_columns s = mixed inv_mix_factors s

-- ADDROUNDKEY with the words w[4n], .., w[4n + 3] (5.1.4)
abbrev pub add_round_key : List (List ℕ) → ℕ → List ℕ → List ℕ
add_round_key w n s = state_of (λ r c. bit_xor (at s r c) (slice_index (word_at w (4 * n + c)) r))
