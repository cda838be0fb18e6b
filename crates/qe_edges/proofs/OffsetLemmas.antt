-- Values as numbers, and the digits that spell them.
use Rattle.std.proofs.Common.{◌≡◌, ℕ, suc, ◌+◌, ◌^◌, ◌<◌, ◌≤◌, ℤ, ◌<ℤ◌, ◌≤ℤ◌, ◌↔◌, sym, subst, arith}
use Rattle.std.proofs.Math.Nat.{pow-suc}
use Rattle.std.specs.Int.{int_max, int_min}
use Rattle.std.proofs.lemmas.Int.{ints, clamps}
use Rattle.std.proofs.lemmas.Nat.{leading_top}
use Rattle.qe_edges.specs.Rules.{Rules, binary_digits, HasDigits, offset_of, bits_of, InDomain, IsDomain}
use Rattle.qe_edges.specs.Prefixes.{InInterval}
use Rattle.qe_edges.specs.Walk.{Between}

-- the binary digits of a number that isn't 0 spell it, and no fewer do
pub digits_spell : (number : ℕ) → 0 < number → number < 2 ^ 64 → HasDigits number (binary_digits number)
digits_spell number some fits =
    let top = leading_top 64 number some fits in
    let count : binary_digits number ≡ suc top.0 = omega (arith, top.1) in
    let twice = pow-suc 2 top.0 in
    subst (HasDigits number) (sym count) (top.3, omega (arith, top.2))

-- the greatest value's number has as many digits as a string
pub span_digits : (rules : Rules) → IsDomain rules → HasDigits (offset_of rules rules.max) (bits_of rules)
unfolding bits_of
span_digits rules domain =
    let ordered = domain.ordered in
    let min_fits = domain.min_fits in
    let max_fits = domain.max_fits in
    digits_spell (offset_of rules rules.max) (omega (arith, ints)) (omega (arith, ints))

-- a value's number is that of a string
pub offset-lt : (rules : Rules) (v : ℤ) → IsDomain rules → InDomain rules v → offset_of rules v < 2 ^ bits_of rules
offset-lt rules v domain held =
    let span = span_digits rules domain in
    let le : offset_of rules v ≤ offset_of rules rules.max = omega (arith, ints) in
    omega (arith, span.0)

-- an interval, cut with the domain, has the numbers between its ends'
pub interval_between : (rules : Rules) (lo hi first last : ℤ) (number : ℕ) → first ≡ int_max lo rules.min
    → last ≡ int_min hi rules.max → first ≤ℤ last
    → InInterval rules lo hi number ↔ Between (offset_of rules first) (offset_of rules last + 1) number
interval_between rules lo hi first last number first_is last_is some = (
  λ inside. (omega (arith, ints, clamps), omega (arith, ints, clamps)),
  λ between. (omega (arith, ints, clamps), omega (arith, ints, clamps), omega (arith, ints, clamps)),
)

-- and none where the ends cross
pub interval_empty : (rules : Rules) (lo hi first last : ℤ) (number : ℕ) → first ≡ int_max lo rules.min
    → last ≡ int_min hi rules.max → last <ℤ first
    → InInterval rules lo hi number → ⊥
interval_empty rules lo hi first last number first_is last_is none inside = omega (arith, ints, clamps)
