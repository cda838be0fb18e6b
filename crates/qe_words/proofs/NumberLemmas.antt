-- A number is written in one way.
use Rattle.std.proofs.Common.{◌≡◌, ℕ, ◌^◌, ◌<◌, ◌≤◌, List, Bool, true, false, cond, ◌⊎◌, inl, inr, Some, None, Result, refl, ap, sym, ◌∙◌, subst, arith}
use Rattle.std.proofs.lemmas.Bool.{ltb-true}
use Rattle.std.proofs.lemmas.Bool.Decides.{nat_tests}
use Rattle.std.proofs.lemmas.Fmt.{decimal_is_IsNumeral, parse-decimal}
use Rattle.std.proofs.lemmas.Slice.Eq.{bytes_eq-Decides}
use Rattle.std.specs.Fmt.{decimal}
use Rattle.std.specs.Prelude.{◌&&◌, nat_lt, nat_le, bytes_eq, Option, option_and_then}
use Rattle.std.specs.Result.{result_ok}
use Rattle.std.specs.Str.Parse.{ParsesUnsigned, digits_value}
use Rattle.qe_words.specs.Words.{number_of, few, documents_of}

both : (a b : Bool) → (a && b) ≡ true → (a ≡ true) × (b ≡ true)
both true true e = (refl, refl)
both true false e = cc
both false b e = cc

-- a word that is a number is what is written of it
pub number_written : (word : List ℕ) (n : ℕ) → number_of word ≡ Some n → (n < 2 ^ 64) × (word ≡ decimal n)
unfolding number_of
number_written word n e = by_test (nat_lt value (2 ^ 64) && bytes_eq word (decimal value)) refl e
  where
    value : ℕ
    value = digits_value 10 word

    by_test : (b : Bool) → (nat_lt value (2 ^ 64) && bytes_eq word (decimal value)) ≡ b → cond b (Some value) None ≡ Some n → (n < 2 ^ 64) × (word ≡ decimal n)
    by_test true h e =
        let parts = both (nat_lt value (2 ^ 64)) _ h in
        let here : value ≡ n = cc in
        subst (λ m. (m < 2 ^ 64) × (word ≡ decimal m)) here (ltb-true value _ parts.0, (bytes_eq-Decides word (decimal value)).0 parts.1)
    by_test false h e = cc

-- and what is written of a number is read as it
pub number_read : (n : ℕ) → n < 2 ^ 64 → number_of (decimal n) ≡ Some n
unfolding number_of
number_read n below =
    let value : digits_value 10 (decimal n) ≡ n = (decimal_is_IsNumeral n below).1 in
    let test : nat_lt n (2 ^ 64) ≡ true = grind (arith, nat_tests) in
    let same : bytes_eq (decimal n) (decimal n) ≡ true = (bytes_eq-Decides (decimal n) (decimal n)).1 refl in
    rw (value, test, same) refl

none_or : (o : Option ℕ) → ((n : ℕ) → o ≡ Some n → ⊥) → None ≡ o
none_or None no_number = refl
none_or (Some n) no_number = absurd (no_number n refl)

-- a word that doesn't parse is no number
pub number_refused : {E : Type 0} (word : List ℕ) (r : Result ℕ E) → None ≡ result_ok r → ParsesUnsigned 64 10 word r → None ≡ number_of word
number_refused word r refused parsed =
    none_or (number_of word) (λ n is.
    let written = number_written word n is in
    let read : None ≡ Some n = refused ∙ ap result_ok (parse-decimal 64 n word r written.0 written.0 written.1 parsed) in
    cc)

-- nor is one that parses to a number that is written otherwise
pub number_differs : {E : Type 0} (word : List ℕ) (r : Result ℕ E) (n : ℕ) → Some n ≡ result_ok r → (decimal n ≡ word → ⊥) → ParsesUnsigned 64 10 word r
    → None ≡ number_of word
number_differs word r n read differs parsed =
    none_or (number_of word) (λ m is.
    let written = number_written word m is in
    let same : Some n ≡ Some m = read ∙ ap result_ok (parse-decimal 64 m word r written.0 written.0 written.1 parsed) in
    let one : m ≡ n = cc in
    differs (sym (written.1 ∙ ap decimal one)))

few_written : (m n : ℕ) → few m ≡ Some n → (m ≡ n) × (1 ≤ n) × (n ≤ 4000)
unfolding few
few_written m n e = by_test (nat_le 1 m && nat_le m 4000) refl e
  where
    by_test : (b : Bool) → (nat_le 1 m && nat_le m 4000) ≡ b → cond b (Some m) None ≡ Some n → (m ≡ n) × (1 ≤ n) × (n ≤ 4000)
    by_test true h e =
        let parts = both (nat_le 1 m) _ h in
        let here : m ≡ n = cc in
        let low : 1 ≤ m = grind (arith, nat_tests) in
        let high : m ≤ 4000 = grind (arith, nat_tests) in
        (here, subst (λ k. 1 ≤ k) here low, subst (λ k. k ≤ 4000) here high)
    by_test false h e = cc

pub few_read : (n : ℕ) → 1 ≤ n → n ≤ 4000 → few n ≡ Some n
unfolding few
few_read n low high =
    let some : nat_le 1 n ≡ true = grind (arith, nat_tests) in
    let most : nat_le n 4000 ≡ true = grind (arith, nat_tests) in
    rw (some, most) refl

pub documents_written : (word : List ℕ) (n : ℕ) → documents_of word ≡ Some n → (1 ≤ n) × (n ≤ 4000) × (word ≡ decimal n)
documents_written word n e = by_number (number_of word) refl e
  where
    by_number : (o : Option ℕ) → number_of word ≡ o → option_and_then few o ≡ Some n → (1 ≤ n) × (n ≤ 4000) × (word ≡ decimal n)
    by_number None is e = cc
    by_number (Some m) is e =
        let here = few_written m n e in
        let written = number_written word m is in
        (here.1, here.2, written.1 ∙ ap decimal here.0)

one_number : (word : List ℕ) (n m : ℕ) → Some n ≡ number_of word → documents_of word ≡ Some m → n ≡ m
one_number word n m is due =
    let few_due : few n ≡ Some m = ap (option_and_then few) is ∙ due in (few_written n m few_due).0

-- a number from 1 to 4,000 is a number of documents, and another isn't
pub documents_read : (word : List ℕ) (n : ℕ) → Some n ≡ number_of word → 1 ≤ n → n ≤ 4000 → Some n ≡ documents_of word
documents_read word n is low high = sym (few_read n low high) ∙ ap (option_and_then few) is

pub no_documents : (word : List ℕ) (n : ℕ) → Some n ≡ number_of word → (1 ≤ n × 4000 < n) ⊎ (n < 1) → None ≡ documents_of word
no_documents word n is outside = none_or (documents_of word) (λ m due.
    let written = documents_written word m due in
    let same : n ≡ m = one_number word n m is due in
    beyond m written.0 written.1 (subst (λ k. (1 ≤ k × 4000 < k) ⊎ (k < 1)) same outside))
  where
    beyond : (m : ℕ) → 1 ≤ m → m ≤ 4000 → (1 ≤ m × 4000 < m) ⊎ (m < 1) → ⊥
    beyond m low high (inl above) = absurd (omega (arith, above.1))
    beyond m low high (inr below) = absurd (omega arith)
