-- The next multiple of a number.
use Rattle.std.proofs.Common.{◌≡◌, ℕ, ◌+◌, ◌-◌, ◌*◌, ◌/◌, ◌%◌, ◌<◌, ◌≤◌, ◌⊎◌, inl, inr, ap, ◌∙◌, arith}
use Rattle.std.proofs.Math.Nat.{mod_self, mod-eq_of_lt, mod-lt, div-add-mod', mul-mod_left, mul-le-mul_right, sub-zero}
use Rattle.std.proofs.lemmas.Bool.{cases_lt, cases_eq}
use Rattle.std.specs.Int.{next_multiple_of}

-- a step of this size leads to the next multiple
step_of : (x y : ℕ) → 0 < y → ((y - x % y) % y ≡ y - x % y) ⊎ ((x % y ≡ 0) × ((y - x % y) % y ≡ 0))
step_of x y some =
    elim (cases_eq (x % y) 0) [
      | inl none ↦ inr (none, ap (λ t. (y - t) % y) none ∙ ap (λ n. n % y) (sub-zero y) ∙ mod_self y)
      | inr rest ↦ inl (mod-eq_of_lt (omega arith))
    ]

-- x is not above the next multiple, which is less than one step above
pub next_multiple : (x y : ℕ) → 0 < y
    → (next_multiple_of x y % y ≡ 0) × (x ≤ next_multiple_of x y) × (next_multiple_of x y < x + y)
next_multiple x y some =
    let whole = div-add-mod' x y in
    let rest = mod-lt x some in
    elim (step_of x y some) [
      | inl up ↦
          let multiple = ap (λ n. n % y) (let e : x + (y - x % y) % y ≡ (x / y + 1) * y = omega arith in e) in
          (multiple ∙ mul-mod_left (x / y + 1) y, omega arith, omega arith)
      | inr (at, none) ↦
          (ap (λ n. n % y) (let e : x + (y - x % y) % y ≡ x = omega arith in e) ∙ at, omega arith, omega arith)
    ]

-- of two multiples less than a step apart from below, the first isn't above
pub no_step : (a b y : ℕ) → a % y ≡ 0 → b % y ≡ 0 → a < b + y → a ≤ b
no_step a b y p q near =
    let a_is = div-add-mod' a y in
    let b_is = div-add-mod' b y in
    elim (cases_lt (b / y) (a / y)) [
      | inl less ↦
          let more : b / y + 1 ≤ a / y = omega arith in
          let far = mul-le-mul_right y more in
          absurd (omega arith)
      | inr same ↦ let under = mul-le-mul_right y same in omega arith
    ]
