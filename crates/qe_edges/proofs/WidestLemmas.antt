-- The widest stored block that begins at a number: what its trailing zeros and the numbers left say.
use Rattle.std.proofs.Common.{◌≡◌, ℕ, zero, suc, ◌+◌, ◌-◌, ◌*◌, ◌/◌, ◌%◌, ◌^◌, ◌<◌, ◌≤◌, min, inl, inr, refl, ap, ◌∙◌, arith}
use lib.Count.{count_trailing_zeros}
use Rattle.std.specs.Int.{w128, bit_at, trailing_zeros}
use Rattle.std.proofs.Math.Nat.{mod-one, zero-mod, zero-mul, div-add-mod', pow-suc, le-mul_of_pos_right}
use Rattle.std.proofs.Math.Pow.{pow_mono}
use Rattle.std.proofs.lemmas.Nat.{pow_pos, pow_below, mod-pow-add}
use Rattle.std.proofs.lemmas.Nat.Bits.{bit_at-trailing_zeros}
use Rattle.std.proofs.lemmas.Bool.{cases_lt, cases_eq}
use Rattle.qe_edges.specs.Rules.{Rules, bits_of, IsStored, IsShortestFrom}
use Rattle.qe_edges.specs.Walk.{IsAlignedAlone, FitsAlone, IsWidestAt}

-- a number whose k lowest digits are 0 is a multiple of 2 ^ k
zeros_multiple : (n k : ℕ) → ((i : ℕ) → i < k → bit_at n i ≡ 0) → n % 2 ^ k ≡ 0
zeros_multiple n zero zeros = mod-one n
zeros_multiple n (suc k) zeros =
    let rest = zeros_multiple n k (λ i less. zeros i (omega arith)) in
    let top : n / 2 ^ k % 2 ≡ 0 = zeros k (omega arith) in
    let split = mod-pow-add n 1 k in
    let none : (n / 2 ^ k % 2) * 2 ^ k ≡ 0 = ap (λ b. b * 2 ^ k) top ∙ zero-mul (2 ^ k) in
    ap (λ e. n % 2 ^ e) (let e : suc k ≡ 1 + k = omega arith in e) ∙ omega arith

-- a multiple of 2 ^ k has the digit 0 at each place below k
multiple_zeros : (n k i : ℕ) → i < k → n % 2 ^ k ≡ 0 → bit_at n i ≡ 0
multiple_zeros n k i less multiple =
    let j = k - i - 1 in
    let here = ap (λ e. n % 2 ^ e) (let e : k ≡ j + (i + 1) = omega arith in e) in
    let upper = mod-pow-add n j (i + 1) in
    let next = ap (λ e. n % 2 ^ e) (let e : i + 1 ≡ 1 + i = omega arith in e) in
    let lower = mod-pow-add n 1 i in
    let none = le-mul_of_pos_right (n / 2 ^ i % 2) (pow_pos i) in
    omega arith

-- the digits of 0 are all 0
zeros_of_zero : trailing_zeros w128 0 ≡ 128
unfolding count_trailing_zeros
zeros_of_zero = refl

-- no more blocks fit than there are numbers
pub log-le : (log left bits : ℕ) → 2 ^ log ≤ left → left ≤ 2 ^ bits → log ≤ bits
log-le log left bits low high = elim (cases_lt bits log)
    [ inl more ↦ let grows = pow_below bits log more in absurd (omega arith) | inr le ↦ le ]

module _ (rules : Rules) (at end height log len : ℕ) (less : at < end) (fits : at < 2 ^ 128) (low : 2 ^ log ≤ end - at)
    (high : end - at < 2 * 2 ^ log)
    (small : log < 128) (within : log ≤ bits_of rules) (is : height ≡ min (trailing_zeros w128 at) log)
    (found : IsShortestFrom rules (bits_of rules - height) len) where
  -- the block's height
  under : bits_of rules - len ≤ height
  under = let from = found.from in omega arith

  -- a shorter stored prefix has a higher block
  above : (level : ℕ) → IsStored rules level → level < len → height < bits_of rules - level
  above level stored short =
      elim (cases_lt level (bits_of rules - height))
      [ inl lower ↦ omega arith | inr from ↦ let le = found.below level stored from in absurd (omega arith) ]

  aligned : at % 2 ^ (bits_of rules - len) ≡ 0
  aligned =
      elim (cases_eq at 0) [
        | inl none ↦ ap (λ n. n % 2 ^ (bits_of rules - len)) none ∙ zero-mod (2 ^ (bits_of rules - len))
        | inr some ↦ zeros_multiple at (bits_of rules - len)
            (λ i below. (bit_at-trailing_zeros w128 at (omega arith) fits).2 i (let le = under in omega arith))
      ]

  fits_alone : height ≡ log → FitsAlone rules (end - at) len
  fits_alone same level stored short =
      let higher = above level stored short in
      let grows = pow_mono (let le : suc log ≤ bits_of rules - level = omega arith in le) in
      let twice = pow-suc 2 log in
      omega arith

  aligned_alone : 0 < at → height ≡ trailing_zeros w128 at → IsAlignedAlone rules at len
  aligned_alone some same level stored short multiple =
      let higher = above level stored short in
      let lowest = bit_at-trailing_zeros w128 at some fits in
      let none = multiple_zeros at (bits_of rules - level) (trailing_zeros w128 at) (omega arith) multiple in
      let one = lowest.1 in
      absurd (omega arith)

  pub widest : IsWidestAt rules at end (record { prefix = at / 2 ^ (bits_of rules - len); len = len })
  widest = record {
    stored = found.stored;
    begins = let whole = div-add-mod' at (2 ^ (bits_of rules - len)) in let rest = aligned in omega arith;
    fits = let le = under in let grows = pow_mono (let h : bits_of rules - len ≤ log = omega arith in h) in omega arith;
    shortest = elim (cases_eq at 0) [
      | inl none ↦ inr (fits_alone (let zeros = ap (trailing_zeros w128) none ∙ zeros_of_zero in omega arith))
      | inr some ↦ elim (cases_lt log (trailing_zeros w128 at))
          [ inl less ↦ inr (fits_alone (omega arith)) | inr le ↦ inl (aligned_alone (omega arith) (omega arith)) ]
    ];
  }
