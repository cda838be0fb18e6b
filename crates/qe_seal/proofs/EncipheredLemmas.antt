-- Deciphering undoes enciphering.
use Rattle.std.proofs.Common.{◌≡◌, ℕ, ◌^◌, ◌<◌, List, ◌++◌, length, take, drop, refl, ap, ◌∙◌, arith, length-append}
use Rattle.std.specs.Int.{w64, from_le_bytes, to_le_bytes}
use Rattle.std.proofs.lemmas.List.{take_at, drop_at}
use Rattle.std.proofs.lemmas.Nat.{from_le_bytes-to_le_bytes_8}
use Rattle.qe_aes.specs.CounterMode.{counter_mode}
use Rattle.qe_aes.proofs.CounterLemmas.{counter_mode-counter_mode, counter_mode-IsCounterMode}
use Rattle.qe_seal.specs.Enciphered.{enciphered, deciphered, pair_bytes, pair_in, enciphered_pair, deciphered_pair}

pub length-enciphered : (key iv plain : List ℕ) → length iv ≡ 16 → length plain ≡ 16 → length (enciphered key iv plain) ≡ 32
length-enciphered key iv plain iv_long long =
    length-append iv (counter_mode key iv plain) ∙ omega (arith, (counter_mode-IsCounterMode key iv plain).same_length)

pub deciphered-enciphered : (key iv plain : List ℕ) → length iv ≡ 16 → deciphered key (enciphered key iv plain) ≡ plain
deciphered-enciphered key iv plain iv_long =
    let cipher = counter_mode key iv plain in
    ap (λ front. counter_mode key front (drop 16 (iv ++ cipher))) (take_at iv cipher 16 iv_long)
    ∙ ap (counter_mode key iv) (drop_at iv cipher 16 iv_long)
    ∙ counter_mode-counter_mode key iv plain

length-pair_bytes : (first second : ℕ) → length (pair_bytes first second) ≡ 16
unfolding pair_bytes
length-pair_bytes first second = refl

pub length-enciphered_pair : (key iv : List ℕ) (first second : ℕ) → length iv ≡ 16 → length (enciphered_pair key iv first second) ≡ 32
length-enciphered_pair key iv first second iv_long = length-enciphered key iv (pair_bytes first second) iv_long (length-pair_bytes first second)

pair_in-pair_bytes : (first second : ℕ) → first < 2 ^ 64 → second < 2 ^ 64 → pair_in (pair_bytes first second) ≡ (first, second)
unfolding pair_bytes pair_in
pair_in-pair_bytes first second first_fits second_fits =
    let front = to_le_bytes w64 first in
    let back = to_le_bytes w64 second in
    let one : from_le_bytes w64 (take 8 (front ++ back)) ≡ first =
    ap (from_le_bytes w64) (take_at front back 8 refl) ∙ from_le_bytes-to_le_bytes_8 first first_fits in
    let two : from_le_bytes w64 (take 8 (drop 8 (front ++ back))) ≡ second =
    ap (λ rest. from_le_bytes w64 (take 8 rest)) (drop_at front back 8 refl) ∙ from_le_bytes-to_le_bytes_8 second second_fits in
    λ i. (one i, two i)

pub deciphered_pair-enciphered_pair : (key iv : List ℕ) (first second : ℕ) → length iv ≡ 16 → first < 2 ^ 64 → second < 2 ^ 64
    → deciphered_pair key (enciphered_pair key iv first second) ≡ (first, second)
deciphered_pair-enciphered_pair key iv first second iv_long first_fits second_fits =
    ap pair_in (deciphered-enciphered key iv (pair_bytes first second) iv_long) ∙ pair_in-pair_bytes first second first_fits second_fits
