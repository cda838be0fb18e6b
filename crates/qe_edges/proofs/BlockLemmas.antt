-- The blocks of prefixes: where they begin and end, and that of two that share a number one holds the other.
use Rattle.std.proofs.Common.{◌≡◌, ℕ, ◌+◌, ◌-◌, ◌*◌, ◌/◌, ◌^◌, ◌<◌, ◌≤◌, sym, ap, ap₂, ◌∙◌, subst, arith}
use Rattle.std.proofs.Math.Nat.{div-add-mod', mod-lt, div-eq_of_lt-le, mul-le-mul_right}
use Rattle.std.proofs.lemmas.Nat.{pow_pos, pow-add, shr-shr, shr_below}
use Rattle.qe_edges.specs.Rules.{Rules, bits_of}
use Rattle.qe_edges.specs.Prefixes.{Begins, lowest_of}
use Rattle.qe_edges.specs.declared.edge.Edge.{Edge}

-- how many numbers the block of a prefix of so many digits has
abbrev pub size_at : Rules → ℕ → ℕ
size_at rules len = 2 ^ (bits_of rules - len)

-- a prefix is its digits' number and length
pub same_edge : (e f : Edge) → e.prefix ≡ f.prefix → e.len ≡ f.len → e ≡ f
same_edge e f prefixes lengths =
    let edge : ℕ → ℕ → Edge = λ p l. record { prefix = p; len = l } in
    ap₂ edge prefixes lengths

-- a number of the block lies between its ends
pub begins_between : (rules : Rules) (e : Edge) (x : ℕ) → Begins rules e x
    → (lowest_of rules e ≤ x) × (x < lowest_of rules e + size_at rules e.len)
begins_between rules e x begins =
    let size = size_at rules e.len in
    let whole = div-add-mod' x size in
    let rest = mod-lt x (pow_pos (bits_of rules - e.len)) in
    let lowest : x / size * size ≡ lowest_of rules e = ap (λ p. p * size) begins in
    (omega arith, omega arith)

-- a number between the ends is one of the block
pub between_begins : (rules : Rules) (e : Edge) (x : ℕ) → lowest_of rules e ≤ x
    → x < lowest_of rules e + size_at rules e.len → Begins rules e x
between_begins rules e x low high = div-eq_of_lt-le (size_at rules e.len) low (omega arith)

-- the prefix of fewer digits is the front of the one of more
coarser : (bits x k l p : ℕ) → k ≤ l → l ≤ bits → x / 2 ^ (bits - l) ≡ p → x / 2 ^ (bits - k) ≡ p / 2 ^ (l - k)
coarser bits x k l p short long begins =
    let height : bits - k ≡ (bits - l) + (l - k) = omega arith in
    ap (λ h. x / 2 ^ h) height ∙ sym (shr-shr x (bits - l) (l - k)) ∙ ap (λ y. y / 2 ^ (l - k)) begins

-- of two prefixes of a number the shorter begins the longer
pub shorter_front : (rules : Rules) (e f : Edge) (x : ℕ) → e.len ≤ f.len → f.len ≤ bits_of rules → Begins rules e x
    → Begins rules f x → f.prefix / 2 ^ (f.len - e.len) ≡ e.prefix
shorter_front rules e f x short long begins_e begins_f = sym (coarser (bits_of rules) x e.len f.len f.prefix short long begins_f) ∙ begins_e

-- what the longer prefix begins, the shorter one begins
pub shorter_begins : (rules : Rules) (e f : Edge) (x : ℕ) → e.len ≤ f.len → f.len ≤ bits_of rules
    → f.prefix / 2 ^ (f.len - e.len) ≡ e.prefix → Begins rules f x → Begins rules e x
shorter_begins rules e f x short long front begins = coarser (bits_of rules) x e.len f.len f.prefix short long begins ∙ front

-- a prefix of a string has a number of so many digits
pub prefix_fits : (rules : Rules) (e : Edge) (x : ℕ) → e.len ≤ bits_of rules → x < 2 ^ bits_of rules
    → Begins rules e x → e.prefix < 2 ^ e.len
prefix_fits rules e x short fits begins =
    let bits : bits_of rules ≡ e.len + (bits_of rules - e.len) = omega arith in
    subst (λ p. p < 2 ^ e.len) begins (shr_below x e.len (bits_of rules - e.len) (subst (λ b. x < 2 ^ b) bits fits))

-- a block ends with the last string or before
pub block_end : (rules : Rules) (e : Edge) → e.len ≤ bits_of rules → e.prefix < 2 ^ e.len
    → lowest_of rules e + size_at rules e.len ≤ 2 ^ bits_of rules
block_end rules e short spelled =
    let size = size_at rules e.len in
    let bits : e.len + (bits_of rules - e.len) ≡ bits_of rules = omega arith in
    let whole : 2 ^ e.len * size ≡ 2 ^ bits_of rules = sym (pow-add 2 e.len (bits_of rules - e.len)) ∙ ap (λ b. 2 ^ b) bits in
    let one_more : e.prefix + 1 ≤ 2 ^ e.len = omega arith in
    let under = mul-le-mul_right size one_more in
    omega arith
