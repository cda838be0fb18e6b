-- Values that hold no other are read again from what is printed of them.
use Rattle.std.proofs.Common.{◌≡◌, ℕ, zero, suc, ◌^◌, ◌<◌, ◌≤◌, ℤ, pos, negsuc, neg_ℤ, List, [], ◌∷◌, length, Bool, true, false, cond, eqb, Some, None, Result, Ok, Err, refl, ap, ◌∙◌, subst, rules, arith}
use Rattle.std.proofs.lemmas.Bool.{ltb-true}
use Rattle.std.proofs.lemmas.Bool.Decides.{nat_tests}
use Rattle.std.proofs.lemmas.Fmt.{decimal_is_IsNumeral}
use Rattle.std.proofs.lemmas.Slice.Eq.{bytes_eq-Decides}
use Rattle.std.proofs.lemmas.Str.Parse.{digit_from_value}
use Rattle.std.specs.Fmt.{decimal, signed_decimal}
use Rattle.std.specs.Prelude.{◌↔◌, ◌&&◌, nat_eq, nat_lt, bytes_eq, slice_index}
use Rattle.std.specs.Result.{result_ok}
use Rattle.std.specs.Str.Parse.{IsNumeral, digits_value, signed_digits_value}
use Rattle.base64.proofs.EngineFacts.{decode_of-encode_of, decode_of_iff}
use Rattle.base64.specs.Engines.{standard}
use Rattle.base64.specs.GeneralPurpose.{IsBytes, decode_of, encode_of}
use Rattle.hex.proofs.HexLemmas.{decode_sized-encode_lower}
use Rattle.serde_json.specs.Data.{number}
use Rattle.serde_json.specs.Find.{of_integer}
use Rattle.qe_value.specs.declared.value.Plain.TheVariants as p
use Rattle.qe_json_forms.specs.Forms.{fits, binary_at}
use Rattle.qe_bson.specs.JsonReading.{value_at}
use Rattle.qe_base.specs.Bytes.{are_bytes}
use Rattle.qe_bson.specs.JsonWriting.{long, date, object_id, binary}
use Rattle.qe_json_forms.proofs.FormLemmas.{both}
use Rattle.qe_json_forms.proofs.TextLemmas.{whole_in-written}

-- a number that fits an int32 is one
pub int32-again : (room : ℕ) (z : ℤ) → fits 31 z ≡ true → value_at room (number (of_integer z)) ≡ Ok (p.Int32 z)
unfolding value_at
int32-again room (pos n) fit =
    let below = ltb-true n _ fit in
    let wide : nat_lt n (2 ^ 63) ≡ true = grind (arith, nat_tests) in rw (wide, fit) refl
int32-again room (negsuc n) fit = rw fit refl

and_false : (b : Bool) → (b && false) ≡ false
and_false true = refl
and_false false = refl

pub long-again : (room : ℕ) (z : ℤ) → fits 63 z ≡ true → 1 ≤ room → value_at room (long z) ≡ Ok (p.Int64 z)
unfolding value_at
long-again zero z fit le = absurd (omega arith)
long-again (suc room) z fit le = rw (whole_in-written z fit, and_false (nat_eq room 0)) refl

pub date-again : (room : ℕ) (z : ℤ) → fits 63 z ≡ true → 2 ≤ room → value_at room (date z) ≡ Ok (p.Date z)
unfolding value_at
date-again zero z fit le = absurd (omega arith)
date-again (suc zero) z fit le = absurd (omega arith)
date-again (suc (suc room)) z fit le =
    let deeper : nat_eq (suc room) 0 ≡ false = grind (arith, nat_tests) in rw (whole_in-written z fit, deeper) refl

-- what are bytes is below 256 at each place
pub bytes_below : (bytes : List ℕ) → are_bytes bytes ≡ true → (i : ℕ) → slice_index bytes i < 256
bytes_below [] e i = omega arith
bytes_below (b ∷ bytes) e zero = ltb-true b 256 (both (nat_lt b 256) (are_bytes bytes) e).0
bytes_below (b ∷ bytes) e (suc i) = bytes_below bytes (both (nat_lt b 256) (are_bytes bytes) e).1 i

pub object_id-again : (room : ℕ) (id : List ℕ) → length id ≡ 12 → are_bytes id ≡ true → 1 ≤ room → value_at room (object_id id) ≡ Ok (p.ObjectId id)
unfolding value_at
object_id-again zero id long are le = absurd (omega arith)
object_id-again (suc room) id long are le = rw (decode_sized-encode_lower id 12 long (bytes_below id are), and_false (nat_eq room 0)) refl

pub binary-again : (room subtype : ℕ) (bytes : List ℕ) → subtype < 256 → are_bytes bytes ≡ true → 2 ≤ room → value_at room (binary subtype bytes) ≡ Ok (p.Binary subtype bytes)
unfolding value_at binary_at
binary-again zero subtype bytes small are le = absurd (omega arith)
binary-again (suc zero) subtype bytes small are le = absurd (omega arith)
binary-again (suc (suc room)) subtype bytes small are le =
    let deeper : nat_eq (suc room) 0 ≡ false = grind (arith, nat_tests) in
    let one : are_bytes (subtype ∷ []) ≡ true = grind (arith, nat_tests) in
    let digits = decode_sized-encode_lower (subtype ∷ []) 1 refl (bytes_below (subtype ∷ []) one) in
    let text : decode_of standard (encode_of standard bytes) ≡ Ok bytes = decode_of-encode_of standard bytes (search rules) (bytes_below bytes are) in
    rw (digits, text, deeper) refl
