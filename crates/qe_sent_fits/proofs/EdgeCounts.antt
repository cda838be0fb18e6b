-- How many edges a value has.
use Rattle.std.proofs.Common.{◌≡◌, ℕ, zero, suc, ℤ, ◌+◌, ◌≤◌, Bool, true, false, [], ◌∷◌, length, Option, None, Some, if◌then◌else◌, refl, ap, arith, length-append}
use Rattle.std.proofs.lemmas.Bool.{eq-eqb}
use Rattle.std.proofs.lemmas.List.{length-map}
use Rattle.qe_edges.specs.Prefixes.{edges_of, prefix_of}
use Rattle.qe_edges.specs.Rules.{Rules, bits_of, is_stored, offset_of, stored_below, stored_levels}
use Rattle.qe_field.specs.Values.{lies_in}
use Rattle.qe_encodes.specs.Items.{edges_for}

below_few : (rules : Rules) (level : ℕ) → length (stored_below rules level) ≤ level
below_few rules zero = omega arith
below_few rules (suc level) =
    let rest = below_few rules level in
    let here = by_test (is_stored rules level) in
    omega (arith, rest, here, length-append (stored_below rules level) (if is_stored rules level then level ∷ [] else []))
  where
    by_test : (b : Bool) → length (if b then level ∷ [] else []) ≤ 1
    by_test true = omega arith
    by_test false = omega arith

leaf_stored : (rules : Rules) → is_stored rules (bits_of rules) ≡ true
leaf_stored rules = rw (eq-eqb (bits_of rules) (bits_of rules) refl) refl

bits_few : (rules : Rules) → bits_of rules ≤ 64
unfolding bits_of
bits_few rules = omega arith

levels_some : (rules : Rules) → (1 ≤ length (stored_levels rules)) × (length (stored_levels rules) ≤ 65)
levels_some rules =
    let bits = bits_of rules in
    let next : bits + 1 ≡ suc bits = omega arith in
    let last = ap (λ b. length (if b then bits ∷ [] else [])) (leaf_stored rules) in
    let all = length-append (stored_below rules bits) (if is_stored rules bits then bits ∷ [] else []) in
    let same = ap (λ n. length (stored_below rules n)) next in
    let rest = below_few rules bits in
    (omega (arith, last, all, same), omega (arith, last, all, same, rest, bits_few rules))

edges_some : (rules : Rules) (z : ℤ) → (1 ≤ length (edges_of rules z)) × (length (edges_of rules z) ≤ 65)
edges_some rules z =
    let levels = levels_some rules in
    let many = length-map (stored_levels rules) (prefix_of rules (offset_of rules z)) in
    (omega (arith, levels.0, many), omega (arith, levels.1, many))

-- a number of the domain has 1 to 65 edges
pub value_edges_some : (rules : Rules) (lo hi : ℤ) (number : Option ℤ) → lies_in lo hi number ≡ true
    → (1 ≤ length (edges_for rules number)) × (length (edges_for rules number) ≤ 65)
value_edges_some rules lo hi None is = absurd cc
value_edges_some rules lo hi (Some z) is = edges_some rules z
