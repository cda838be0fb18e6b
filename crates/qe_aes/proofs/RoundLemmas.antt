-- The rounds, one after another, and how the cipher and its inverse undo each other.
use Rattle.std.proofs.Common.{◌≡◌, ℕ, zero, suc, List, refl, ap, sym, ◌∙◌}
use Rattle.qe_aes.specs.Steps.{sub_bytes, shift_rows, mix_columns, mix_factors, inv_mix_factors, inv_mix_columns, add_round_key}
use Rattle.qe_aes.specs.Steps.{inv_sub_bytes, inv_shift_rows}
use Rattle.qe_aes.specs.KeySchedule.{key_schedule}
use Rattle.qe_aes.specs.Cipher.{round, rounds, cipher, inv_round, inv_rounds, inv_cipher, aes_256, inv_aes_256}
use Rattle.qe_base.specs.Bytes.{AreBytes}
use Rattle.qe_aes.specs.Laws.{IsBlock}
use Rattle.qe_aes.proofs.ScheduleLemmas.{AreWords, AreWords-key_schedule}
use Rattle.qe_aes.proofs.StepLemmas.{inv_sub_bytes-sub_bytes, sub_bytes-inv_sub_bytes, inv_shift_rows-shift_rows}
use Rattle.qe_aes.proofs.StepLemmas.{shift_rows-inv_shift_rows, add_round_key-add_round_key}
use Rattle.qe_aes.proofs.StepLemmas.{IsBlock-sub_bytes, IsBlock-inv_sub_bytes, IsBlock-shift_rows, IsBlock-inv_shift_rows}
use Rattle.qe_aes.proofs.StepLemmas.{IsBlock-mixed, IsBlock-add_round_key}
use Rattle.qe_aes.proofs.MixLemmas.{inv_mix_columns-mix_columns, mix_columns-inv_mix_columns}

-- one more round
pub rounds-next : (w : List (List ℕ)) (m n : ℕ) (s : List ℕ) → n ≡ suc m → round w n (rounds w m s) ≡ rounds w n s
unfolding rounds
rounds-next w m n s is = ap (λ k. round w k (rounds w m s)) is ∙ ap (λ k. rounds w k s) (sym is)

-- one round fewer that is left
pub inv_rounds-next : (w : List (List ℕ)) (m n : ℕ) (s : List ℕ) → n ≡ suc m → inv_rounds w m (inv_round w n s) ≡ inv_rounds w n s
unfolding inv_rounds
inv_rounds-next w m n s is = ap (λ k. inv_rounds w m (inv_round w k s)) is ∙ ap (λ k. inv_rounds w k s) (sym is)

-- the two steps that each round begins with
abbrev stir : List ℕ → List ℕ
stir s = shift_rows (sub_bytes s)

-- how the inverse takes them back
abbrev unstir : List ℕ → List ℕ
unstir s = inv_sub_bytes (inv_shift_rows s)

-- they make blocks of blocks
IsBlock-stir : (s : List ℕ) → IsBlock s → IsBlock (stir s)
IsBlock-stir s is = IsBlock-shift_rows (sub_bytes s) (IsBlock-sub_bytes s is)

IsBlock-unstir : (s : List ℕ) → IsBlock s → IsBlock (unstir s)
IsBlock-unstir s is = IsBlock-inv_sub_bytes (inv_shift_rows s) (IsBlock-inv_shift_rows s is)

-- and undo each other
unstir-stir : (s : List ℕ) → IsBlock s → unstir (stir s) ≡ s
unstir-stir s is = ap inv_sub_bytes (inv_shift_rows-shift_rows (sub_bytes s) (IsBlock-sub_bytes s is)) ∙ inv_sub_bytes-sub_bytes s is

stir-unstir : (s : List ℕ) → IsBlock s → stir (unstir s) ≡ s
stir-unstir s is = ap shift_rows (sub_bytes-inv_sub_bytes (inv_shift_rows s) (IsBlock-inv_shift_rows s is)) ∙ shift_rows-inv_shift_rows s is

-- rounds make blocks of blocks
IsBlock-rounds : (w : List (List ℕ)) (n : ℕ) (s : List ℕ) → AreWords w → IsBlock s → IsBlock (rounds w n s)
unfolding round rounds
IsBlock-rounds w zero s words is = IsBlock-add_round_key w 0 s words is
IsBlock-rounds w (suc n) s words is =
    IsBlock-add_round_key w (suc n) _ words (IsBlock-mixed mix_factors _ (IsBlock-stir (rounds w n s) (IsBlock-rounds w n s words is)))

-- so does a round of the inverse
IsBlock-inv_round : (w : List (List ℕ)) (n : ℕ) (s : List ℕ) → AreWords w → IsBlock s → IsBlock (inv_round w n s)
unfolding inv_round
IsBlock-inv_round w n s words is = IsBlock-mixed inv_mix_factors _ (IsBlock-add_round_key w n (unstir s) words (IsBlock-unstir s is))

-- so do all
IsBlock-inv_rounds : (w : List (List ℕ)) (n : ℕ) (s : List ℕ) → AreWords w → IsBlock s → IsBlock (inv_rounds w n s)
unfolding inv_rounds
IsBlock-inv_rounds w zero s words is = is
IsBlock-inv_rounds w (suc n) s words is = IsBlock-inv_rounds w n (inv_round w (suc n) s) words (IsBlock-inv_round w (suc n) s words is)

-- the rounds of the inverse take back those of the cipher
inv_rounds-rounds : (w : List (List ℕ)) (n : ℕ) (s : List ℕ) → AreWords w → IsBlock s → inv_rounds w n (stir (rounds w n s)) ≡ stir (add_round_key w 0 s)
unfolding round rounds inv_round inv_rounds
inv_rounds-rounds w zero s words is = refl
inv_rounds-rounds w (suc n) s words is =
    let before = stir (rounds w n s) in
    let before_block : IsBlock before = IsBlock-stir (rounds w n s) (IsBlock-rounds w n s words is) in
    let mixed_block : IsBlock (mix_columns before) = IsBlock-mixed mix_factors before before_block in
    ap (λ t. inv_rounds w n (inv_mix_columns (add_round_key w (suc n) t))) (unstir-stir (rounds w (suc n) s) (IsBlock-rounds w (suc n) s words is))
    ∙ ap (λ t. inv_rounds w n (inv_mix_columns t)) (add_round_key-add_round_key w (suc n) (mix_columns before) mixed_block)
    ∙ ap (inv_rounds w n) (inv_mix_columns-mix_columns before before_block)
    ∙ inv_rounds-rounds w n s words is

-- and the other way round
rounds-inv_rounds : (w : List (List ℕ)) (n : ℕ) (s : List ℕ) → AreWords w → IsBlock s
    → stir (rounds w n (add_round_key w 0 (unstir (inv_rounds w n s)))) ≡ s
unfolding round rounds inv_round inv_rounds
rounds-inv_rounds w zero s words is = ap stir (add_round_key-add_round_key w 0 (unstir s) (IsBlock-unstir s is)) ∙ stir-unstir s is
rounds-inv_rounds w (suc n) s words is =
    let unstirred = IsBlock-unstir s is in
    let added = IsBlock-add_round_key w (suc n) (unstir s) words unstirred in
    ap (λ t. stir (add_round_key w (suc n) (mix_columns t)))
    (rounds-inv_rounds w n (inv_round w (suc n) s) words (IsBlock-inv_round w (suc n) s words is))
    ∙ ap (λ t. stir (add_round_key w (suc n) t)) (mix_columns-inv_mix_columns (add_round_key w (suc n) (unstir s)) added)
    ∙ ap stir (add_round_key-add_round_key w (suc n) (unstir s) unstirred)
    ∙ stir-unstir s is

-- the inverse undoes the cipher, under each key schedule
inv_cipher-cipher : (w : List (List ℕ)) (s : List ℕ) → AreWords w → IsBlock s → inv_cipher w (cipher w s) ≡ s
unfolding cipher inv_cipher
inv_cipher-cipher w s words is =
    let stirred = IsBlock-stir (rounds w 13 s) (IsBlock-rounds w 13 s words is) in
    ap (λ t. add_round_key w 0 (unstir (inv_rounds w 13 t))) (add_round_key-add_round_key w 14 (stir (rounds w 13 s)) stirred)
    ∙ ap (λ t. add_round_key w 0 (unstir t)) (inv_rounds-rounds w 13 s words is)
    ∙ ap (add_round_key w 0) (unstir-stir (add_round_key w 0 s) (IsBlock-add_round_key w 0 s words is))
    ∙ add_round_key-add_round_key w 0 s is

-- the cipher undoes the inverse
cipher-inv_cipher : (w : List (List ℕ)) (s : List ℕ) → AreWords w → IsBlock s → cipher w (inv_cipher w s) ≡ s
unfolding cipher inv_cipher
cipher-inv_cipher w s words is =
    ap (add_round_key w 14) (rounds-inv_rounds w 13 (add_round_key w 14 s) words (IsBlock-add_round_key w 14 s words is))
    ∙ add_round_key-add_round_key w 14 s is

-- both under each key
pub inv_aes_256-aes_256 : (key block : List ℕ) → AreBytes key → IsBlock block → inv_aes_256 key (aes_256 key block) ≡ block
unfolding aes_256 inv_aes_256
inv_aes_256-aes_256 key block bytes is = inv_cipher-cipher (key_schedule key) block (AreWords-key_schedule key bytes) is

pub aes_256-inv_aes_256 : (key block : List ℕ) → AreBytes key → IsBlock block → aes_256 key (inv_aes_256 key block) ≡ block
unfolding aes_256 inv_aes_256
aes_256-inv_aes_256 key block bytes is = cipher-inv_cipher (key_schedule key) block (AreWords-key_schedule key bytes) is

-- and both make blocks of blocks
pub IsBlock-aes_256 : (key block : List ℕ) → AreBytes key → IsBlock block → IsBlock (aes_256 key block)
unfolding cipher aes_256
IsBlock-aes_256 key block bytes is =
    let w = key_schedule key in
    let words = AreWords-key_schedule key bytes in
    IsBlock-add_round_key w 14 (stir (rounds w 13 block)) words (IsBlock-stir (rounds w 13 block) (IsBlock-rounds w 13 block words is))

pub IsBlock-inv_aes_256 : (key block : List ℕ) → AreBytes key → IsBlock block → IsBlock (inv_aes_256 key block)
unfolding inv_cipher inv_aes_256
IsBlock-inv_aes_256 key block bytes is =
    let w = key_schedule key in
    let words = AreWords-key_schedule key bytes in
    let last = IsBlock-inv_rounds w 13 (add_round_key w 14 block) words (IsBlock-add_round_key w 14 block words is) in
    IsBlock-add_round_key w 0 _ words (IsBlock-unstir (inv_rounds w 13 (add_round_key w 14 block)) last)
