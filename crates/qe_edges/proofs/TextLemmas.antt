-- The texts of prefixes.
use Rattle.std.proofs.Common.{◌≡◌, ℕ, zero, suc, ◌+◌, ◌-◌, ◌*◌, ◌/◌, ◌%◌, ◌^◌, ◌<◌, List, ◌++◌, length, take, set, refl, sym, ap, ◌∙◌, subst, arith, append_assoc}
use Rattle.std.proofs.Math.Nat.{mod-one, mod-eq_of_lt}
use Rattle.std.proofs.lemmas.Nat.{mod-pow-add}
use Rattle.std.proofs.lemmas.List.{take_more_set}
use Rattle.qe_edges.specs.Texts.{digits_of, spelling_of, TextsDiffer}
use Rattle.qe_edges.proofs.BlockLemmas.{same_edge}

length-digits_of : (places number : ℕ) → length (digits_of places number) ≡ places
length-digits_of zero number = refl
length-digits_of (suc places) number = ap suc (length-digits_of places number)

pub length-spelling_of : (len prefix : ℕ) → (len ≡ 0 → ⊥) → length (spelling_of len prefix) ≡ len
length-spelling_of zero prefix some = absurd (some refl)
length-spelling_of (suc places) prefix some = length-digits_of (suc places) prefix

-- numbers with the same lowest digits have the same rest
same_low : (places m n : ℕ) → digits_of places m ≡ digits_of places n → m % 2 ^ places ≡ n % 2 ^ places
same_low zero m n same = mod-one m ∙ sym (mod-one n)
same_low (suc places) m n same =
    let heads : 48 + m / 2 ^ places % 2 ≡ 48 + n / 2 ^ places % 2 = cc in
    let tails : digits_of places m ≡ digits_of places n = cc in
    let low = same_low places m n tails in
    let high = ap (λ b. b * 2 ^ places) (let e : m / 2 ^ places % 2 ≡ n / 2 ^ places % 2 = omega arith in e) in
    let split_m = ap (λ e. m % 2 ^ e) (let e : suc places ≡ 1 + places = omega arith in e) ∙ mod-pow-add m 1 places in
    let split_n = ap (λ e. n % 2 ^ e) (let e : suc places ≡ 1 + places = omega arith in e) ∙ mod-pow-add n 1 places in
    omega arith

-- numbers with one spelling have one length and are one
same_spelling : (k l p q : ℕ) → p < 2 ^ k → q < 2 ^ l → spelling_of k p ≡ spelling_of l q → (k ≡ l) × (p ≡ q)
same_spelling zero zero p q p_fits q_fits same = (refl, omega arith)
same_spelling zero (suc l) p q p_fits q_fits same = let heads : 114 ≡ 48 + q / 2 ^ l % 2 = cc in absurd (omega arith)
same_spelling (suc k) zero p q p_fits q_fits same = let heads : 48 + p / 2 ^ k % 2 ≡ 114 = cc in absurd (omega arith)
same_spelling (suc k) (suc l) p q p_fits q_fits same =
    let lengths : suc k ≡ suc l = sym (length-digits_of (suc k) p) ∙ ap length same ∙ length-digits_of (suc l) q in
    let low = same_low (suc l) p q (ap (λ n. digits_of n p) (sym lengths) ∙ same) in
    (lengths, sym (mod-eq_of_lt (subst (λ n. p < 2 ^ n) lengths p_fits)) ∙ low ∙ mod-eq_of_lt q_fits)

pub texts_differ : TextsDiffer
texts_differ e f e_fits f_fits same = let parts = same_spelling e.len f.len e.prefix f.prefix e_fits f_fits same in
    same_edge e f parts.1 parts.0

-- the digits written and those to come are all, also with one digit more
pub digits_more : (into : List ℕ) (len place prefix digit : ℕ) → place < length into → place < len
    → digit ≡ 48 + prefix / 2 ^ (len - 1 - place) % 2
    → take place into ++ digits_of (len - place) prefix ≡ digits_of len prefix
    → take (place + 1) (set into place digit) ++ digits_of (len - (place + 1)) prefix ≡ digits_of len prefix
digits_more into len place prefix digit within more is written =
    let rest = len - 1 - place in
    let next : len - (place + 1) ≡ rest = omega arith in
    let here : len - place ≡ suc rest = omega arith in
    rw (take_more_set into place digit within, next, append_assoc, is)
    (ap (λ n. take place into ++ digits_of n prefix) (sym here) ∙ written)
