-- The CBC cipher of blocks meets the standard's relation, which nothing else does.
use Rattle.std.proofs.Common.{◌≡◌, ℕ, zero, suc, ◌*◌, ◌<◌, ◌≤◌, List, [], ◌++◌, length, take, drop, refl, ap, sym, ◌∙◌, arith, length-append, length-drop}
use Rattle.std.proofs.lemmas.List.{take_at, drop_at, drop-drop, take-append-drop, length-take-le}
use Rattle.qe_aes.specs.Field.{xor_bytes}
use Rattle.qe_aes.specs.Cipher.{aes_256}
use Rattle.qe_aes.specs.CounterMode.{block_at}
use Rattle.qe_aes.proofs.CounterLemmas.{length-aes_256}
use Rattle.qe_seal.specs.Cbc.{IsCbc, cbc_cipher}

-- block i + 1 is block i of what follows the first
pub block_at-suc : (bytes : List ℕ) (i : ℕ) → block_at bytes (suc i) ≡ block_at (drop 16 bytes) i
block_at-suc bytes i = ap (take 16) (ap (λ n. drop n bytes) (omega arith) ∙ sym (drop-drop (16 * i) 16 bytes))

-- of a list in two parts, the first of them a block
pub block_at-append : (block rest : List ℕ) (i : ℕ) → length block ≡ 16 → block_at (block ++ rest) (suc i) ≡ block_at rest i
block_at-append block rest i long = block_at-suc (block ++ rest) i ∙ ap (λ bytes. block_at bytes i) (drop_at block rest 16 long)

pub length-cbc_cipher : (key before xs : List ℕ) (n : ℕ) → length (cbc_cipher key before n xs) ≡ 16 * n
unfolding cbc_cipher
length-cbc_cipher key before xs zero = refl
length-cbc_cipher key before xs (suc n) =
    let block = aes_256 key (xor_bytes (take 16 xs) before) in
    length-append block (cbc_cipher key block n (drop 16 xs))
    ∙ omega (arith, length-aes_256 key (xor_bytes (take 16 xs) before), length-cbc_cipher key block (drop 16 xs) n)

-- each block of the cipher
cbc_cipher-blocks : (key before xs : List ℕ) (n i : ℕ) → length before ≡ 16 → i < n
    → block_at (cbc_cipher key before n xs) i ≡ aes_256 key (xor_bytes (block_at xs i) (block_at (before ++ cbc_cipher key before n xs) i))
unfolding cbc_cipher
cbc_cipher-blocks key before xs zero i long lt = absurd (omega arith)
cbc_cipher-blocks key before xs (suc n) zero long lt =
    let block = aes_256 key (xor_bytes (take 16 xs) before) in
    let rest = cbc_cipher key block n (drop 16 xs) in
    take_at block rest 16 (length-aes_256 key (xor_bytes (take 16 xs) before))
    ∙ ap (λ b. aes_256 key (xor_bytes (take 16 xs) b)) (sym (take_at before (block ++ rest) 16 long))
cbc_cipher-blocks key before xs (suc n) (suc i) long lt =
    let block = aes_256 key (xor_bytes (take 16 xs) before) in
    let rest = cbc_cipher key block n (drop 16 xs) in
    let block_long : length block ≡ 16 = length-aes_256 key (xor_bytes (take 16 xs) before) in
    block_at-append block rest i block_long
    ∙ cbc_cipher-blocks key block (drop 16 xs) n i block_long (omega arith)
    ∙ ap (λ p. aes_256 key (xor_bytes p (block_at (block ++ rest) i))) (sym (block_at-suc xs i))
    ∙ ap (λ b. aes_256 key (xor_bytes (block_at xs (suc i)) b)) (sym (block_at-append before (block ++ rest) i long))

-- the cipher meets the relation
pub cbc_cipher-IsCbc : (key iv xs : List ℕ) (n : ℕ) → length iv ≡ 16 → length xs ≡ 16 * n → IsCbc key iv xs (cbc_cipher key iv n xs)
cbc_cipher-IsCbc key iv xs n long xs_long = record {
  same_length = length-cbc_cipher key iv xs n ∙ sym xs_long;
  blocks = λ i lt. cbc_cipher-blocks key iv xs n i long (omega arith);
}

-- what follows the first block meets it behind that block
IsCbc-drop : (key iv xs cipher : List ℕ) → length iv ≡ 16 → 16 ≤ length xs → IsCbc key iv xs cipher → IsCbc key (take 16 cipher) (drop 16 xs) (drop 16 cipher)
IsCbc-drop key iv xs cipher long within is = record {
  same_length = length-drop 16 cipher ∙ omega (arith, is.same_length, length-drop 16 xs);
  blocks = λ i lt.
      sym (block_at-suc cipher i)
      ∙ is.blocks (suc i) (omega (arith, length-drop 16 xs))
      ∙ ap (λ p. aes_256 key (xor_bytes p (block_at (iv ++ cipher) (suc i)))) (block_at-suc xs i)
      ∙ ap (λ b. aes_256 key (xor_bytes (block_at (drop 16 xs) i) b))
      (block_at-append iv cipher i long ∙ ap (λ c. block_at c i) (sym (take-append-drop 16 cipher)));
}

-- nothing else meets it
pub only_cbc_cipher : (key iv xs cipher : List ℕ) (n : ℕ) → length iv ≡ 16 → length xs ≡ 16 * n → IsCbc key iv xs cipher → cipher ≡ cbc_cipher key iv n xs
unfolding cbc_cipher
only_cbc_cipher key iv xs cipher zero long xs_long is = sym (take_at cipher [] 0 (is.same_length ∙ xs_long))
only_cbc_cipher key iv xs cipher (suc n) long xs_long is =
    let block = aes_256 key (xor_bytes (take 16 xs) iv) in
    let first : take 16 cipher ≡ block =
    is.blocks 0 (omega arith) ∙ ap (λ b. aes_256 key (xor_bytes (take 16 xs) b)) (take_at iv cipher 16 long)
    in
    let rest : drop 16 cipher ≡ cbc_cipher key (take 16 cipher) n (drop 16 xs) =
    only_cbc_cipher key (take 16 cipher) (drop 16 xs) (drop 16 cipher) n (length-take-le 16 cipher (omega (arith, is.same_length)))
    (length-drop 16 xs ∙ omega arith) (IsCbc-drop key iv xs cipher long (omega arith) is)
    in
    sym (take-append-drop 16 cipher) ∙ ap (λ c. take 16 cipher ++ c) rest ∙ ap (λ b. b ++ cbc_cipher key b n (drop 16 xs)) first
