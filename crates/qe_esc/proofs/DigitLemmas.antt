-- A number of so many binary digits.
use Rattle.std.proofs.Common.{◌≡◌, ◌↔◌, ⊎_elim, ℕ, zero, suc, ◌+◌, ◌*◌, ◌/◌, ◌%◌, ◌^◌, ◌<◌, ◌≤◌, false, cond, [], ◌∷◌, ◌++◌, length, ◌==◌, sym, subst, arith, length-append}
use Rattle.std.specs.Int.Digits.{digits_with_fuel}
use Rattle.std.proofs.lemmas.Nat.{pow_pos}
use Rattle.std.proofs.Math.Nat.{pow-suc}
use Rattle.std.proofs.lemmas.Bool.{cases_lt, cases_eq, eq-eqb}
use Rattle.std.proofs.lemmas.Bool.Decides.{nat_tests}
use Rattle.qe_esc.specs.Digits.{digits}

pub twice : (k : ℕ) → 2 ^ suc k ≡ 2 * 2 ^ k
twice k = omega (arith, pow-suc 2 k)

not_zero : (n : ℕ) → 0 < n → (n == 0) ≡ false
not_zero n some = grind (arith, nat_tests)

reached : (turns k n : ℕ) → n ≤ turns → 2 ^ k ≤ n → k < length (digits_with_fuel 2 turns n)
reached zero k n small big = absurd (omega (arith, pow_pos k))
reached (suc turns) k n small big =
    let rest = digits_with_fuel 2 turns (n / 2) in
    let all = rest ++ n % 2 ∷ [] in
    let long : length all ≡ length rest + 1 = length-append rest (n % 2 ∷ []) in
    let some : 0 < n = omega (arith, pow_pos k) in
    subst (λ b. k < length (cond b [] all)) (sym (not_zero n some)) (elim k as (λ j. 2 ^ j ≤ n → j < length all) [
      | zero ↦ λ _. omega (arith, long)
      | suc j ↦ λ above. let below : 2 ^ j ≤ n / 2 = omega (arith, twice j) in omega (arith, long, reached turns j (n / 2) (omega arith) below)
    ] big)

-- a number of 2^k or more has more than k digits
pub digits-above : (k n : ℕ) → 2 ^ k ≤ n → k < digits n
unfolding digits
digits-above k n big = reached n k n (omega arith) big

least : (turns d n : ℕ) → n < 2 ^ d → length (digits_with_fuel 2 turns n) ≤ d
least zero d n small = omega arith
least (suc turns) d n small =
    let rest = digits_with_fuel 2 turns (n / 2) in
    let all = rest ++ n % 2 ∷ [] in
    let long : length all ≡ length rest + 1 = length-append rest (n % 2 ∷ []) in
    ⊎_elim
    (λ (none : n ≡ 0). subst (λ b. length (cond b [] all) ≤ d) (sym (eq-eqb n 0 none)) (omega arith))
    (λ (apart : n ≡ 0 → ⊥). subst (λ b. length (cond b [] all) ≤ d) (sym (not_zero n (omega (arith, apart)))) (elim d as (λ e. n < 2 ^ e → length all ≤ e) [
      | zero ↦ λ below. absurd (apart (omega arith))
      | suc e ↦ λ below. let half : n / 2 < 2 ^ e = omega (arith, twice e) in omega (arith, long, least turns e (n / 2) half)
    ] small))
    (cases_eq n 0)

pub has_digits : (k n : ℕ) → (2 ^ k ≤ n) ↔ (k < digits n)
unfolding digits
has_digits k n = (reached n k n (omega arith), (λ more. ⊎_elim (λ (below : n < 2 ^ k). absurd (omega (arith, least n k n below))) (λ (from : 2 ^ k ≤ n). from) (cases_lt n (2 ^ k))))
