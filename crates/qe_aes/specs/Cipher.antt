-- The cipher AES-256 and its inverse (FIPS 197, section 5, in the edition of 2023), on blocks of 16 bytes.
use Rattle.std.specs.Prelude.{ℕ, zero, suc, List}
use Rattle.qe_aes.specs.Steps.{sub_bytes, shift_rows, mix_columns, add_round_key, inv_sub_bytes, inv_shift_rows, inv_mix_columns}
use Rattle.qe_aes.specs.KeySchedule.{key_schedule}

-- round n: SUBBYTES, SHIFTROWS, MIXCOLUMNS, ADDROUNDKEY
unfoldable pub round : List (List ℕ) → ℕ → List ℕ → List ℕ
round w n s = add_round_key w n (mix_columns (shift_rows (sub_bytes s)))

-- the state after round n, where round 0 is the first ADDROUNDKEY
unfoldable pub rounds : List (List ℕ) → ℕ → List ℕ → List ℕ
rounds w zero s = add_round_key w 0 s
rounds w (suc n) s = round w (suc n) (rounds w n s)

-- CIPHER with 14 rounds, of which the last mixes no columns (5.1)
unfoldable pub cipher : List (List ℕ) → List ℕ → List ℕ
cipher w block = add_round_key w 14 (shift_rows (sub_bytes (rounds w 13 block)))

-- round n of the inverse: INVSHIFTROWS, INVSUBBYTES, ADDROUNDKEY, INVMIXCOLUMNS
unfoldable pub inv_round : List (List ℕ) → ℕ → List ℕ → List ℕ
inv_round w n s = inv_mix_columns (add_round_key w n (inv_sub_bytes (inv_shift_rows s)))

-- the rounds n, n - 1, .., 1 of the inverse
unfoldable pub inv_rounds : List (List ℕ) → ℕ → List ℕ → List ℕ
inv_rounds w zero s = s
inv_rounds w (suc n) s = inv_rounds w n (inv_round w (suc n) s)

-- INVCIPHER with 14 rounds (5.3)
unfoldable pub inv_cipher : List (List ℕ) → List ℕ → List ℕ
inv_cipher w block =
    add_round_key w 0 (inv_sub_bytes (inv_shift_rows (inv_rounds w 13 (add_round_key w 14 block))))

-- AES-256 of a block under a key of 32 bytes
unfoldable pub aes_256 : List ℕ → List ℕ → List ℕ
aes_256 key block = cipher (key_schedule key) block

-- the block of which `aes_256` makes this one
unfoldable pub inv_aes_256 : List ℕ → List ℕ → List ℕ
inv_aes_256 key block = inv_cipher (key_schedule key) block
