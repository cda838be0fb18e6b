-- Texts of integers and of bytes: each stands for one, and is the one that is written for it.
use Rattle.std.proofs.Common.{◌≡◌, ℕ, zero, suc, ◌^◌, ◌<◌, ◌≤◌, ℤ, pos, negsuc, neg_ℤ, List, [], ◌∷◌, length, Bool, true, false, cond, eqb, Some, None, Result, Ok, Err, refl, ap, ◌∙◌, subst, rules, arith}
use Rattle.std.proofs.lemmas.Bool.{ltb-true}
use Rattle.std.proofs.lemmas.Bool.Decides.{nat_tests}
use Rattle.std.proofs.lemmas.Fmt.{decimal_is_IsNumeral}
use Rattle.std.proofs.lemmas.Slice.Eq.{bytes_eq-Decides}
use Rattle.std.proofs.lemmas.Str.Parse.{digit_from_value}
use Rattle.std.specs.Fmt.{decimal, signed_decimal}
use Rattle.std.specs.Prelude.{◌↔◌, ◌&&◌, nat_eq, nat_lt, bytes_eq, slice_index}
use Rattle.std.specs.Result.{result_ok}
use Rattle.std.specs.Str.Parse.{IsNumeral, digits_value, signed_digits_value}
use Rattle.base64.proofs.EngineFacts.{decode_of-encode_of, decode_of_iff}
use Rattle.base64.specs.Engines.{standard}
use Rattle.base64.specs.GeneralPurpose.{IsBytes, decode_of, encode_of}
use Rattle.qe_json_forms.specs.Forms.{fits, whole_in}
use Rattle.qe_json_forms.proofs.FormLemmas.{both}

-- digits without a sign have their own value
unsigned : (ds : List ℕ) → IsNumeral 10 ds → signed_digits_value 10 ds ≡ pos (digits_value 10 ds)
unsigned [] is = absurd (omega (arith, is.0))
unsigned (c ∷ cs) is =
    let range = digit_from_value c is.1.0 in
    let no_minus : eqb c 45 ≡ false = grind (arith, nat_tests) in
    let no_plus : eqb c 43 ≡ false = grind (arith, nat_tests) in
    rw (no_minus, no_plus) refl

-- the text of an integer has its value
value-written : (z : ℤ) → fits 63 z ≡ true → signed_digits_value 10 (signed_decimal z) ≡ z
value-written (pos n) fit =
    let below = ltb-true n _ fit in
    let digits = decimal_is_IsNumeral n (omega arith) in unsigned (decimal n) digits.0 ∙ ap pos digits.1
value-written (negsuc n) fit =
    let below = ltb-true n _ fit in
    let digits = decimal_is_IsNumeral (suc n) (omega arith) in ap (λ m. neg_ℤ (pos m)) digits.1

-- the text of an integer is read as it
read_as : (bits : ℕ) (z : ℤ) → fits bits z ≡ true → signed_digits_value 10 (signed_decimal z) ≡ z → whole_in bits (signed_decimal z) ≡ Some z
read_as bits z fit value =
    let same : bytes_eq (signed_decimal z) (signed_decimal z) ≡ true = (bytes_eq-Decides (signed_decimal z) (signed_decimal z)).1 refl in
    rw (value, fit, same) refl

pub whole_in-written : (z : ℤ) → fits 63 z ≡ true → whole_in 63 (signed_decimal z) ≡ Some z
whole_in-written z fit = read_as 63 z fit (value-written z fit)

fits_wider : (z : ℤ) → fits 31 z ≡ true → fits 63 z ≡ true
fits_wider (pos n) fit = let below = ltb-true n _ fit in grind (arith, nat_tests)
fits_wider (negsuc n) fit = let below = ltb-true n _ fit in grind (arith, nat_tests)

-- what is read is written so
written_as : (bits : ℕ) (text : List ℕ) (z : ℤ) → whole_in bits text ≡ Some z → (fits bits z ≡ true) × (text ≡ signed_decimal z)
written_as bits text z e = by_test (fits bits value && bytes_eq text (signed_decimal value)) refl e
  where
    value : ℤ
    value = signed_digits_value 10 text

    by_test : (b : Bool) → (fits bits value && bytes_eq text (signed_decimal value)) ≡ b → cond b (Some value) None ≡ Some z → (fits bits z ≡ true) × (text ≡ signed_decimal z)
    by_test true h e =
        let parts = both (fits bits value) _ h in
        let here : value ≡ z = cc in
        subst (λ w. (fits bits w ≡ true) × (text ≡ signed_decimal w)) here (parts.0, (bytes_eq-Decides text (signed_decimal value)).0 parts.1)
    by_test false h e = cc

pub one_text-31 : (text : List ℕ) (z : ℤ) → (whole_in 31 text ≡ Some z) ↔ ((fits 31 z ≡ true) × (text ≡ signed_decimal z))
one_text-31 text z = (
  written_as 31 text z,
  λ w. rw w.1 (read_as 31 z w.0 (value-written z (fits_wider z w.0))),
)

pub one_text-63 : (text : List ℕ) (z : ℤ) → (whole_in 63 text ≡ Some z) ↔ ((fits 63 z ≡ true) × (text ≡ signed_decimal z))
one_text-63 text z = (
  written_as 63 text z,
  λ w. rw w.1 (whole_in-written z w.0),
)

ok_some : {A E : Type 0} (r : Result A E) (x : A) → (result_ok r ≡ Some x) ↔ (r ≡ Ok x)
ok_some (Ok y) x = (λ e. cc, λ e. cc)
ok_some (Err fault) x = (λ e. cc, λ e. cc)

-- a text is read as the bytes that it is written for
pub one_base64 : (text bytes : List ℕ) → IsBytes text → IsBytes bytes → (result_ok (decode_of standard text) ≡ Some bytes) ↔ (text ≡ encode_of standard bytes)
one_base64 text bytes of_text of_bytes =
    let only = decode_of_iff standard text bytes (search rules) of_text of_bytes in
    let found = ok_some (decode_of standard text) bytes in (
      λ e. only.0 (found.0 e),
      λ e. found.1 (only.1 e),
    )
