-- The steps of a round undo each other, and make blocks of blocks.
use Rattle.std.proofs.Common.{◌≡◌, ◌+◌, ◌-◌, ◌*◌, ◌/◌, ◌%◌, ◌<◌, ℕ, List, length, slice_index, bit_xor, refl, ap, sym, subst, ◌∙◌}
use Rattle.std.proofs.Common.{arith, inl, inr, lit<}
use Rattle.std.proofs.lemmas.Bool.{cases_lt}
use Rattle.std.proofs.lemmas.List.{get_or_past}
use Rattle.std.proofs.lemmas.List.FromFn.{fill_by_all, get_or-map-range_with_len}
use Rattle.std.proofs.lemmas.Nat.{xor_lt}
use Rattle.qe_aes.specs.Field.{sub_byte, inv_sub_byte}
use Rattle.qe_aes.specs.KeySchedule.{word_at}
use Rattle.qe_aes.specs.Steps.{at, state_of, sub_bytes, inv_sub_bytes, shift_rows, inv_shift_rows, mixed_row, column_of, mixed}
use Rattle.qe_aes.specs.Steps.{add_round_key}
use Rattle.qe_aes.specs.Laws.{IsBlock}
use Rattle.qe_aes.proofs.FieldLemmas.{sub_byte-lt, inv_sub_byte-lt, inv_sub_byte-sub_byte, sub_byte-inv_sub_byte, xor-xor, product_below-lt}
use Rattle.qe_aes.proofs.ScheduleLemmas.{AreWords}
use Rattle.qe_aes.proofs.WordLemmas.{listed}

-- a byte of a state that is given by its bytes
at-state_of : (byte : ℕ → ℕ → ℕ) (r c : ℕ) → r < 4 → c < 4 → at (state_of byte) r c ≡ byte r c
at-state_of byte r c r_lt c_lt =
    let row : (r + 4 * c) % 4 ≡ r = omega arith in
    let column : (r + 4 * c) / 4 ≡ c = omega arith in
    get_or-map-range_with_len (λ k. byte (k % 4) (k / 4)) 0 16 (r + 4 * c) (r + 4 * c) 0 (omega arith) (omega arith)
    ∙ ap (λ j. byte j ((r + 4 * c) / 4)) row ∙ ap (byte r) column

-- a state is known by its bytes
same_state : (byte : ℕ → ℕ → ℕ) (s : List ℕ) → length s ≡ 16 → ((r c : ℕ) → r < 4 → c < 4 → byte r c ≡ at s r c) → state_of byte ≡ s
same_state byte s long same = sym (fill_by_all (λ k. byte (k % 4) (k / 4)) s 16 0 long by_place)
  where
    by_place : (k : ℕ) → k < 16 → slice_index s k ≡ byte (k % 4) (k / 4)
    by_place k lt =
        let place : k ≡ k % 4 + 4 * (k / 4) = omega arith in
        ap (slice_index s) place ∙ sym (same (k % 4) (k / 4) (omega arith) (omega arith))

-- a step on each byte is undone by a step on each byte
undone_by_bytes : (step back : ℕ → ℕ → ℕ → ℕ) (s : List ℕ) → length s ≡ 16 → ((r c : ℕ) → back r c (step r c (at s r c)) ≡ at s r c)
    → state_of (λ r c. back r c (at (state_of (λ i j. step i j (at s i j))) r c)) ≡ s
undone_by_bytes step back s long undoes =
    same_state (λ r c. back r c (at (state_of (λ i j. step i j (at s i j))) r c)) s long
    (λ r c r_lt c_lt. ap (back r c) (at-state_of (λ i j. step i j (at s i j)) r c r_lt c_lt) ∙ undoes r c)

-- INVSUBBYTES undoes SUBBYTES
pub inv_sub_bytes-sub_bytes : (s : List ℕ) → IsBlock s → inv_sub_bytes (sub_bytes s) ≡ s
inv_sub_bytes-sub_bytes s is =
    undone_by_bytes (λ _ _. sub_byte) (λ _ _. inv_sub_byte) s is.long (λ r c. inv_sub_byte-sub_byte (at s r c) (is.bytes (r + 4 * c)))

-- SUBBYTES undoes INVSUBBYTES
pub sub_bytes-inv_sub_bytes : (s : List ℕ) → IsBlock s → sub_bytes (inv_sub_bytes s) ≡ s
sub_bytes-inv_sub_bytes s is =
    undone_by_bytes (λ _ _. inv_sub_byte) (λ _ _. sub_byte) s is.long (λ r c. sub_byte-inv_sub_byte (at s r c) (is.bytes (r + 4 * c)))

-- ADDROUNDKEY undoes itself
pub add_round_key-add_round_key : (w : List (List ℕ)) (n : ℕ) (s : List ℕ) → IsBlock s → add_round_key w n (add_round_key w n s) ≡ s
add_round_key-add_round_key w n s is =
    let key = λ (r c : ℕ). slice_index (word_at w (4 * n + c)) r in
    undone_by_bytes (λ r c b. bit_xor b (key r c)) (λ r c b. bit_xor b (key r c)) s is.long (λ r c. xor-xor (at s r c) (key r c))

-- INVSHIFTROWS undoes SHIFTROWS
pub inv_shift_rows-shift_rows : (s : List ℕ) → IsBlock s → inv_shift_rows (shift_rows s) ≡ s
inv_shift_rows-shift_rows s is = sym (listed s 16 is.long)

-- SHIFTROWS undoes INVSHIFTROWS
pub shift_rows-inv_shift_rows : (s : List ℕ) → IsBlock s → shift_rows (inv_shift_rows s) ≡ s
shift_rows-inv_shift_rows s is = sym (listed s 16 is.long)

-- a state of bytes is a block
IsBlock-state_of : (byte : ℕ → ℕ → ℕ) → ((r c : ℕ) → byte r c < 256) → IsBlock (state_of byte)
IsBlock-state_of byte lt = record { long = refl; bytes = by_place }
  where
    IsByte : ℕ → Type 0
    IsByte b = b < 256

    by_place : (k : ℕ) → IsByte (slice_index (state_of byte) k)
    by_place k =
        elim (cases_lt k 16) [
          | inl within ↦ subst IsByte (sym (get_or-map-range_with_len (λ j. byte (j % 4) (j / 4)) 0 16 k k 0 within (omega arith))) (lt (k % 4) (k / 4))
          | inr past ↦ subst IsByte (sym (get_or_past (state_of byte) k 0 past)) (lit< tt)
        ]

-- SUBBYTES makes a block of a block
pub IsBlock-sub_bytes : (s : List ℕ) → IsBlock s → IsBlock (sub_bytes s)
IsBlock-sub_bytes s is = IsBlock-state_of (λ r c. sub_byte (at s r c)) (λ r c. sub_byte-lt (at s r c) (is.bytes (r + 4 * c)))

-- so does INVSUBBYTES
pub IsBlock-inv_sub_bytes : (s : List ℕ) → IsBlock s → IsBlock (inv_sub_bytes s)
IsBlock-inv_sub_bytes s is = IsBlock-state_of (λ r c. inv_sub_byte (at s r c)) (λ r c. inv_sub_byte-lt (at s r c) (is.bytes (r + 4 * c)))

-- so does SHIFTROWS
pub IsBlock-shift_rows : (s : List ℕ) → IsBlock s → IsBlock (shift_rows s)
IsBlock-shift_rows s is = IsBlock-state_of (λ r c. at s r ((c + r) % 4)) (λ r c. is.bytes (r + 4 * ((c + r) % 4)))

-- so does INVSHIFTROWS
pub IsBlock-inv_shift_rows : (s : List ℕ) → IsBlock s → IsBlock (inv_shift_rows s)
IsBlock-inv_shift_rows s is = IsBlock-state_of (λ r c. at s r ((c + 4 - r) % 4)) (λ r c. is.bytes (r + 4 * ((c + 4 - r) % 4)))

-- so do MIXCOLUMNS and INVMIXCOLUMNS
pub IsBlock-mixed : (a s : List ℕ) → IsBlock s → IsBlock (mixed a s)
IsBlock-mixed a s is = IsBlock-state_of (λ r c. mixed_row a r (column_of s c)) row_lt
  where
    row_lt : (r c : ℕ) → mixed_row a r (column_of s c) < 256
    row_lt r c =
        let term_lt = λ (j k : ℕ). product_below-lt 8 (at s j c) k (is.bytes (j + 4 * c)) in
        xor_lt 8 _ _ (xor_lt 8 _ _ (xor_lt 8 _ _ (term_lt 0 _) (term_lt 1 _)) (term_lt 2 _)) (term_lt 3 _)

-- so does ADDROUNDKEY, where the words are made of bytes
pub IsBlock-add_round_key : (w : List (List ℕ)) (n : ℕ) (s : List ℕ) → AreWords w → IsBlock s → IsBlock (add_round_key w n s)
IsBlock-add_round_key w n s words is =
    IsBlock-state_of (λ r c. bit_xor (at s r c) (slice_index (word_at w (4 * n + c)) r))
    (λ r c. xor_lt 8 (at s r c) _ (is.bytes (r + 4 * c)) (words (4 * n + c) r))
