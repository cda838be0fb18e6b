-- Chained blocks, one after another, as the loops make them.
use Rattle.std.proofs.Common.{◌≡◌, ℕ, suc, ◌+◌, ◌-◌, ◌*◌, ◌/◌, ◌<◌, ◌≤◌, List, ◌++◌, length, take, drop, replicate, ap, sym, ◌∙◌, arith, length-append, length-drop}
use Rattle.std.proofs.lemmas.List.{append_assoc, append-nil, take_all, drop-append-le, take-append-le, drop-drop, length-replicate}
use Rattle.qe_aes.specs.Field.{xor_bytes}
use Rattle.qe_aes.specs.Cipher.{aes_256, inv_aes_256}
use Rattle.qe_seal.specs.Cbc.{cbc_cipher, cbc_plain, padding_length, padded_bytes, cbc_encryption}

-- the padded bytes are one block more than the whole blocks
pub length-padded_bytes : (plain : List ℕ) → length (padded_bytes plain) ≡ 16 * suc (length plain / 16)
unfolding padded_bytes
length-padded_bytes plain =
    length-append plain (replicate (padding_length plain) (padding_length plain))
    ∙ ap (λ n. length plain + n) (length-replicate (padding_length plain) (padding_length plain)) ∙ omega arith

-- a whole block of them is one of the bytes
whole_block : (plain : List ℕ) (i : ℕ) → i < length plain / 16 → take 16 (drop (16 * i) (padded_bytes plain)) ≡ take 16 (drop (16 * i) plain)
unfolding padded_bytes
whole_block plain i lt =
    let padding = replicate (padding_length plain) (padding_length plain) in
    ap (take 16) (drop-append-le (16 * i) plain padding (omega arith))
    ∙ take-append-le 16 (drop (16 * i) plain) padding (omega (arith, length-drop (16 * i) plain))

-- one block more is enciphered
cbc_cipher-next : (key before xs block done : List ℕ) (m n : ℕ) → n ≡ suc m → block ≡ aes_256 key (xor_bytes (take 16 xs) before)
    → (done ++ block) ++ cbc_cipher key block m (drop 16 xs) ≡ done ++ cbc_cipher key before n xs
unfolding cbc_cipher
cbc_cipher-next key before xs block done m n is block_is =
    append_assoc done block (cbc_cipher key block m (drop 16 xs))
    ∙ ap (λ b. done ++ (b ++ cbc_cipher key b m (drop 16 xs))) block_is
    ∙ ap (λ k. done ++ cbc_cipher key before k xs) (sym is)

-- one block more is deciphered
cbc_plain-next : (key before xs done : List ℕ) (m n : ℕ) → n ≡ suc m
    → (done ++ xor_bytes (inv_aes_256 key (take 16 xs)) before) ++ cbc_plain key (take 16 xs) m (drop 16 xs) ≡ done ++ cbc_plain key before n xs
unfolding cbc_plain
cbc_plain-next key before xs done m n is =
    append_assoc done (xor_bytes (inv_aes_256 key (take 16 xs)) before) (cbc_plain key (take 16 xs) m (drop 16 xs))
    ∙ ap (λ k. done ++ cbc_plain key before k xs) (sym is)

-- the cipher of what is left from block i on
abbrev pub cipher_from : List ℕ → List ℕ → List ℕ → ℕ → List ℕ
cipher_from key before plain i = cbc_cipher key before (suc (length plain / 16) - i) (drop (16 * i) (padded_bytes plain))

pub cipher_from-start : (key iv plain : List ℕ) → cipher_from key iv plain 0 ≡ cbc_encryption key iv plain
unfolding cbc_encryption
cipher_from-start key iv plain = ap (λ n. cbc_cipher key iv n (padded_bytes plain)) (omega (arith, length-padded_bytes plain))

pub cipher_from-next : (key before plain block done : List ℕ) (i : ℕ) → i < length plain / 16
    → block ≡ aes_256 key (xor_bytes (take 16 (drop (16 * i) plain)) before)
    → (done ++ block) ++ cipher_from key block plain (i + 1) ≡ done ++ cipher_from key before plain i
cipher_from-next key before plain block done i lt block_is =
    let left = suc (length plain / 16) in
    ap (λ xs. (done ++ block) ++ cbc_cipher key block (left - (i + 1)) xs)
    (ap (λ n. drop n (padded_bytes plain)) (omega arith) ∙ sym (drop-drop 16 (16 * i) (padded_bytes plain)))
    ∙ cbc_cipher-next key before (drop (16 * i) (padded_bytes plain)) block done (left - (i + 1)) (left - i) (omega arith)
    (block_is ∙ ap (λ xs. aes_256 key (xor_bytes xs before)) (sym (whole_block plain i lt)))

pub cipher_from-end : (key before plain block done : List ℕ)
    → block ≡ aes_256 key (xor_bytes (drop (16 * (length plain / 16)) (padded_bytes plain)) before)
    → done ++ block ≡ done ++ cipher_from key before plain (length plain / 16)
unfolding cbc_cipher
cipher_from-end key before plain block done block_is =
    let i = length plain / 16 in
    let last = drop (16 * i) (padded_bytes plain) in
    let one_block : length last ≤ 16 = omega (arith, length-drop (16 * i) (padded_bytes plain), length-padded_bytes plain) in
    sym (append-nil (done ++ block))
    ∙ cbc_cipher-next key before last block done 0 (suc i - i) (omega arith) (block_is ∙ ap (λ xs. aes_256 key (xor_bytes xs before)) (sym (take_all 16 last one_block)))

-- the plain blocks that are left from block i on
abbrev pub plain_from : List ℕ → List ℕ → List ℕ → ℕ → List ℕ
plain_from key before cipher i = cbc_plain key before (length cipher / 16 - i) (drop (16 * i) cipher)

pub plain_from-next : (key before cipher block sum done : List ℕ) (i : ℕ) → i < length cipher / 16
    → block ≡ take 16 (drop (16 * i) cipher) → sum ≡ xor_bytes (inv_aes_256 key block) before
    → (done ++ sum) ++ plain_from key block cipher (i + 1) ≡ done ++ plain_from key before cipher i
plain_from-next key before cipher block sum done i lt block_is sum_is =
    let n = length cipher / 16 in
    let xs = drop (16 * i) cipher in
    ap (λ ys. (done ++ sum) ++ cbc_plain key block (n - (i + 1)) ys)
    (ap (λ k. drop k cipher) (omega arith) ∙ sym (drop-drop 16 (16 * i) cipher))
    ∙ ap (λ ys. (done ++ ys) ++ cbc_plain key block (n - (i + 1)) (drop 16 xs)) sum_is
    ∙ ap (λ b. (done ++ xor_bytes (inv_aes_256 key b) before) ++ cbc_plain key b (n - (i + 1)) (drop 16 xs)) block_is
    ∙ cbc_plain-next key before xs done (n - (i + 1)) (n - i) (omega arith)

pub plain_from-end : (key before cipher done : List ℕ) (i : ℕ) → length cipher / 16 ≤ i → done ++ plain_from key before cipher i ≡ done
unfolding cbc_plain
plain_from-end key before cipher done i all =
    let none : length cipher / 16 - i ≡ 0 = omega arith in
    ap (λ n. done ++ cbc_plain key before n (drop (16 * i) cipher)) none ∙ append-nil done
