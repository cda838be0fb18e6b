-- Blocks, one after another.
use Rattle.std.proofs.Common.{◌≡◌, ℕ, zero, suc, ◌+◌, ◌*◌, ◌<◌, ◌≤◌, List, [], ◌∷◌, ◌++◌, length, get_or, take, drop, refl, ap, sym, ◌∙◌, arith, inl, inr, length-append, length-drop}
use Rattle.std.specs.Prelude.{All}
use Rattle.std.proofs.lemmas.List.{flat_map_more, take_more, take_at, drop_at, length_push, get_or_append_left, get_or_push, nil_from_length, length-take-le, take-append-drop}
use Rattle.std.proofs.lemmas.Bool.{cases_lt}
use Rattle.std.proofs.Math.Seq.{take-add}
use Rattle.qe_indexed.specs.declared.block.Block.{Block}
use Rattle.qe_indexed.specs.Reading.{blocks_in}
use Rattle.qe_indexed.specs.Spelling.{joined, AreBlocks}

-- each block has 96 bytes
abbrev pub AreLong : List Block → Type 0
AreLong blocks = All (λ block. length block.0 ≡ 96) blocks

pub joined-nil : joined [] ≡ []
unfolding joined
joined-nil = refl

pub joined-cons : (block : Block) (blocks : List Block) → joined (block ∷ blocks) ≡ block.0 ++ joined blocks
unfolding joined
joined-cons block blocks = refl

-- a block more at the end
pub joined-push : (blocks : List Block) (block : Block) → joined (blocks ++ block ∷ []) ≡ joined blocks ++ block.0
unfolding joined
joined-push blocks block = sym (flat_map_more (λ b. b.0) [] blocks block)

-- the next block of a loop over them
pub append-joined-more : (bytes : List ℕ) (blocks : List Block) (i : ℕ) (d : Block) → i < length blocks
    → (bytes ++ joined (take i blocks)) ++ (get_or blocks i d).0 ≡ bytes ++ joined (take (i + 1) blocks)
unfolding joined
append-joined-more bytes blocks i d lt =
    flat_map_more (λ b. b.0) bytes (take i blocks) (get_or blocks i d) ∙ ap (λ bs. bytes ++ joined bs) (sym (take_more blocks i d lt))

pub AreLong-push : (blocks : List Block) (block : Block) → AreLong blocks → length block.0 ≡ 96 → AreLong (blocks ++ block ∷ [])
AreLong-push blocks block long one k d lt =
    elim (cases_lt k (length blocks)) [
      | inl before ↦ ap (λ b. length b.0) (get_or_append_left blocks (block ∷ []) d k before) ∙ long k d before
      | inr from ↦ ap (λ b. length b.0) (get_or_push blocks block d k (omega (arith, length_push blocks block))) ∙ one
    ]

pub length-joined : (blocks : List Block) → AreLong blocks → length (joined blocks) ≡ 96 * length blocks
length-joined [] long = ap length joined-nil
length-joined (block ∷ blocks) long =
    ap length (joined-cons block blocks) ∙ length-append block.0 (joined blocks)
    ∙ omega (arith, long 0 block (omega arith), length-joined blocks (λ k d lt. long (suc k) d (omega arith)))

-- the blocks are found again
pub joined-one : (blocks others : List Block) → AreLong blocks → AreLong others → length blocks ≡ length others → joined blocks ≡ joined others → blocks ≡ others
joined-one [] [] long longs same_length same = refl
joined-one [] (other ∷ others) long longs same_length same = absurd (omega arith)
joined-one (block ∷ blocks) [] long longs same_length same = absurd (omega arith)
joined-one (block ∷ blocks) (other ∷ others) long longs same_length same =
    let first_long : length block.0 ≡ 96 = long 0 block (omega arith) in
    let other_long : length other.0 ≡ 96 = longs 0 other (omega arith) in
    let both : block.0 ++ joined blocks ≡ other.0 ++ joined others = sym (joined-cons block blocks) ∙ same ∙ joined-cons other others in
    let first : block.0 ≡ other.0 =
    sym (take_at block.0 (joined blocks) 96 first_long) ∙ ap (take 96) both ∙ take_at other.0 (joined others) 96 other_long in
    let rest : joined blocks ≡ joined others =
    sym (drop_at block.0 (joined blocks) 96 first_long) ∙ ap (drop 96) both ∙ drop_at other.0 (joined others) 96 other_long in
    let tail : blocks ≡ others = joined-one blocks others (λ k d lt. long (suc k) d (omega arith)) (λ k d lt. longs (suc k) d (omega arith)) (omega arith) rest in
    λ i. record { 0 = first i } ∷ tail i

pub AreLong-cons : (block : Block) (blocks : List Block) → length block.0 ≡ 96 → AreLong blocks → AreLong (block ∷ blocks)
AreLong-cons block blocks one long zero d lt = one
AreLong-cons block blocks one long (suc k) d lt = long k d (omega arith)

-- the blocks of some bytes, one further
pub blocks-next : (blocks : List Block) (bytes piece : List ℕ) (i : ℕ) → 96 * i + 96 ≤ length bytes → AreLong blocks → joined blocks ≡ take (96 * i) bytes
    → piece ≡ take 96 (drop (96 * i) bytes) → length piece ≡ 96
    → AreLong (blocks ++ record { 0 = piece } ∷ []) × (joined (blocks ++ record { 0 = piece } ∷ []) ≡ take (96 * (i + 1)) bytes)
blocks-next blocks bytes piece i fits long same piece_is piece_long = (
  AreLong-push blocks (record { 0 = piece }) long piece_long,
  joined-push blocks (record { 0 = piece }) ∙ ap (λ bs. bs ++ piece) same ∙ ap (λ bs. take (96 * i) bytes ++ bs) piece_is
      ∙ sym (take-add (96 * i) 96 bytes) ∙ ap (λ n. take n bytes) (omega arith),
)

-- bytes cut into blocks
pub AreBlocks-blocks_in : (n : ℕ) (bytes : List ℕ) → length bytes ≡ 96 * n → AreBlocks (blocks_in n bytes) bytes × (length (blocks_in n bytes) ≡ n)
unfolding blocks_in
AreBlocks-blocks_in zero bytes long =
    (record { each = λ k d lt. absurd (omega arith); bytes_are = joined-nil ∙ sym (nil_from_length bytes (omega arith)) }, refl)
AreBlocks-blocks_in (suc n) bytes long =
    let rest = AreBlocks-blocks_in n (drop 96 bytes) (omega (arith, length-drop 96 bytes)) in
    let first : Block = record { 0 = take 96 bytes } in (
      record {
        each = AreLong-cons first (blocks_in n (drop 96 bytes)) (length-take-le 96 bytes (omega arith)) rest.0.each;
        bytes_are = joined-cons first (blocks_in n (drop 96 bytes)) ∙ ap (λ bs. take 96 bytes ++ bs) rest.0.bytes_are ∙ take-append-drop 96 bytes;
      },
      ap suc rest.1,
    )

-- a block more of a loop over them
pub AreLong-more : (blocks : List Block) (i : ℕ) (d : Block) → i < length blocks → AreLong (take i blocks) → length (get_or blocks i d).0 ≡ 96 → AreLong (take (i + 1) blocks)
AreLong-more blocks i d lt long one = rw (take_more blocks i d lt) (AreLong-push (take i blocks) (get_or blocks i d) long one)
