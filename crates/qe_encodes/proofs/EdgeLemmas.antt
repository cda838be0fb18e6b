-- A value's edges have the digits of their lengths.
use Rattle.std.proofs.Common.{◌≡◌, ℕ, suc, ◌+◌, ◌-◌, ◌^◌, ◌<◌, ◌≤◌, ℤ, sym, subst, arith}
use Rattle.std.proofs.Math.Nat.{pow-suc}
use Rattle.std.proofs.lemmas.Int.{ints}
use Rattle.std.proofs.lemmas.Nat.{leading_top, shr_below}
use Rattle.qe_edges.specs.Prefixes.{Begins}
use Rattle.qe_edges.specs.Rules.{Rules, HasDigits, InDomain, IsDomain, IsStored, binary_digits, bits_of, offset_of}
use Rattle.qe_edges.specs.Rules.IsStored.{leaf, between, root}
use Rattle.qe_edges.specs.declared.edge.Edge.{Edge}

digits_spell : (number : ℕ) → 0 < number → number < 2 ^ 64 → HasDigits number (binary_digits number)
digits_spell number some fits =
    let top = leading_top 64 number some fits in
    let count : binary_digits number ≡ suc top.0 = omega (arith, top.1) in
    let twice = pow-suc 2 top.0 in
    subst (HasDigits number) (sym count) (top.3, omega (arith, top.2))

span_digits : (rules : Rules) → IsDomain rules → HasDigits (offset_of rules rules.max) (bits_of rules)
unfolding bits_of
span_digits rules domain =
    let ordered = domain.ordered in
    let min_fits = domain.min_fits in
    let max_fits = domain.max_fits in
    digits_spell (offset_of rules rules.max) (omega (arith, ints)) (omega (arith, ints))

-- a value's number is that of a string
pub offset_fits : (rules : Rules) (v : ℤ) → IsDomain rules → InDomain rules v → offset_of rules v < 2 ^ bits_of rules
offset_fits rules v domain held =
    let span = span_digits rules domain in
    let le : offset_of rules v ≤ offset_of rules rules.max = omega (arith, ints) in
    omega (arith, span.0)

-- a stored prefix is no longer than a string
pub stored_level : (rules : Rules) (level : ℕ) → IsStored rules level → level ≤ bits_of rules
stored_level rules level (leaf at) = omega arith
stored_level rules level (between some short trimmed multiple) = omega arith
stored_level rules level (root none untrimmed) = omega arith

-- a prefix of a string has a number of so many digits
pub prefix_fits : (rules : Rules) (e : Edge) (x : ℕ) → e.len ≤ bits_of rules → x < 2 ^ bits_of rules → Begins rules e x → e.prefix < 2 ^ e.len
prefix_fits rules e x short fits begins =
    let bits : bits_of rules ≡ e.len + (bits_of rules - e.len) = omega arith in
    subst (λ p. p < 2 ^ e.len) begins (shr_below x e.len (bits_of rules - e.len) (subst (λ b. x < 2 ^ b) bits fits))
