-- How many stored blocks make up a number of strings.
use Rattle.std.proofs.Common.{◌≡◌, ◌≢◌, ℕ, zero, suc, ◌+◌, ◌-◌, ◌*◌, ◌/◌, ◌%◌, ◌^◌, ◌<◌, ◌≤◌, inl, inr, sym, ap, ◌∙◌, subst, arith}
use Rattle.std.proofs.Math.Nat.{pow-suc, div-one}
use Rattle.std.proofs.lemmas.Nat.{pow_pos, mod-pow-add, shr-shr, le-div}
use Rattle.std.proofs.lemmas.Bool.{cases_eq}
use Rattle.qe_edges.specs.Rules.{Rules, bits_of, IsStored, IsDomain}
use Rattle.qe_edges.proofs.LevelLemmas.{level_from, stored-le, shortest, level_from_here, level_from_next}
use Rattle.qe_edges.proofs.BlockLemmas.{size_at}

-- how many stored blocks make up one block of so many digits
abbrev pub weight_of : Rules → ℕ → ℕ
weight_of rules level = 2 ^ (level_from rules level - level)

-- how many stored blocks make up so many blocks of so many digits
abbrev pub blocks_in : Rules → ℕ → ℕ → ℕ
blocks_in rules zero count = count * weight_of rules 0
blocks_in rules (suc level) count = blocks_in rules level (count / 2) + count % 2 * weight_of rules (suc level)

-- a block of a stored level is one
pub weight_here : (rules : Rules) → IsDomain rules → (level : ℕ) → IsStored rules level → weight_of rules level ≡ 1
weight_here rules domain level stored =
    let here = level_from_here rules domain level stored in
    ap (λ h. 2 ^ h) (let e : level_from rules level - level ≡ 0 = omega arith in e)

-- a block has twice the strings of one a digit longer
pub weight_twice : (rules : Rules) → IsDomain rules → (level : ℕ) → suc level ≤ bits_of rules
    → 2 ^ (level_from rules (suc level) - level) ≡ weight_of rules (suc level) * 2
weight_twice rules domain level within =
    let from = (shortest rules domain (suc level) within).from in
    ap (λ h. 2 ^ h) (let e : level_from rules (suc level) - level ≡ suc (level_from rules (suc level) - suc level) = omega arith in e)
    ∙ pow-suc 2 (level_from rules (suc level) - suc level)

-- one block less, where no shorter stored level's blocks end there, has the stored blocks of one less
one_less : (rules : Rules) (domain : IsDomain rules) (level count : ℕ) → level ≤ bits_of rules → 0 < count
    → ((other : ℕ) → IsStored rules other → other < level → count % 2 ^ (level - other) ≢ 0)
    → blocks_in rules level (count - 1) + weight_of rules level ≡ blocks_in rules level count
one_less rules domain zero count within some alone =
    let weight = weight_of rules 0 in
    let is : count ≡ (count - 1) + 1 = omega arith in
    let product = ap (λ n. n * weight) is in
    omega arith
one_less rules domain (suc level) count within some alone =
    let weight = weight_of rules (suc level) in
    elim (cases_eq (count % 2) 0) [
      | inl even ↦
          let half : (count - 1) / 2 ≡ count / 2 - 1 = omega arith in
          let one : (count - 1) % 2 ≡ 1 = omega arith in
          let unstored : IsStored rules level → ⊥ = λ stored. alone level stored (omega arith)
          (ap (λ e. count % 2 ^ e) (let e : suc level - level ≡ 1 = omega arith in e) ∙ even) in
          let next =
          ap (λ l. 2 ^ (l - level)) (level_from_next rules domain level within unstored)
          ∙ weight_twice rules domain level within
          in
          let below = one_less rules domain level (count / 2) (omega arith) (omega arith) (λ other stored short multiple.
          alone other stored (omega arith) (
          let split = mod-pow-add count (level - other) 1 in
          ap (λ e. count % 2 ^ e) (let e : suc level - other ≡ (level - other) + 1 = omega arith in e) ∙ omega arith
          )) in
          rw (half, one, even) (omega arith)
      | inr odd ↦
          let half : (count - 1) / 2 ≡ count / 2 = omega arith in
          let none : (count - 1) % 2 ≡ 0 = omega arith in
          let one : count % 2 ≡ 1 = omega arith in
          rw (half, none, one) (omega arith)
    ]

-- what is one less at a level is so below it, where the digits behind stay
blocks_less : (rules : Rules) (level j n x : ℕ) → n ≡ level + j → 2 ^ j ≤ x
    → blocks_in rules level (x / 2 ^ j - 1) + 1 ≡ blocks_in rules level (x / 2 ^ j)
    → blocks_in rules n (x - 2 ^ j) + 1 ≡ blocks_in rules n x
blocks_less rules level zero n x at some less =
    let same : level ≡ n = omega arith in
    subst (λ k. blocks_in rules k (x - 1) + 1 ≡ blocks_in rules k x) same
    (subst (λ y. blocks_in rules level (y - 1) + 1 ≡ blocks_in rules level y) (div-one x) less)
blocks_less rules level (suc j) zero x at some less = absurd (omega arith)
blocks_less rules level (suc j) (suc n) x at some less =
    let twice = pow-suc 2 j in
    let half : (x - 2 ^ suc j) / 2 ≡ x / 2 - 2 ^ j = omega arith in
    let rest : (x - 2 ^ suc j) % 2 ≡ x % 2 = omega arith in
    let down : x / 2 ^ suc j ≡ x / 2 / 2 ^ j = ap (λ e. x / 2 ^ e) (let e : suc j ≡ 1 + j = omega arith in e) ∙ sym (shr-shr x 1 j) in
    let below = blocks_less rules level j n (x / 2) (omega arith) (omega arith)
    (subst (λ p. blocks_in rules level (p - 1) + 1 ≡ blocks_in rules level p) down less) in
    rw (half, rest) (omega arith)

-- without one stored block of a number of strings, where no shorter one ends with it, one block less makes up the rest
pub block_less : (rules : Rules) (domain : IsDomain rules) (len x : ℕ) → IsStored rules len → size_at rules len ≤ x
    → ((other : ℕ) → IsStored rules other → other < len → x / size_at rules len % 2 ^ (len - other) ≢ 0)
    → blocks_in rules (bits_of rules) (x - size_at rules len) + 1 ≡ blocks_in rules (bits_of rules) x
block_less rules domain len x stored some alone =
    let within = stored-le rules len stored in
    let count = x / size_at rules len in
    let positive = le-div 1 x (size_at rules len) (pow_pos (bits_of rules - len)) (omega arith) in
    let one = one_less rules domain len count within (omega arith) alone in
    let weight = weight_here rules domain len stored in
    blocks_less rules len (bits_of rules - len) (bits_of rules) x (omega arith) some
    (ap (λ w. blocks_in rules len (count - 1) + w) (sym weight) ∙ one)
