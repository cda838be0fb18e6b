-- Forms: texts of integers, and the only entry of an object.
use Rattle.std.proofs.Common.{◌≡◌, ◌^◌, ◌<◌, ℕ, ℤ, pos, negsuc, List, [], ◌∷◌, length, Bool, true, false, cond, Some, None, Result, string_bytes, refl, sym, ap, ◌∙◌, arith}
use Rattle.std.proofs.lemmas.Bool.{ltb-true}
use Rattle.std.proofs.lemmas.Fmt.{parse-signed_decimal}
use Rattle.std.proofs.lemmas.Slice.Eq.{bytes_eq-Decides}
use Rattle.std.specs.Fmt.{signed_decimal}
use Rattle.std.specs.Int.{w32, w64}
use Rattle.std.specs.Prelude.{FitsSigned, ◌&&◌, nat_eq, bytes_eq, slice_get}
use Rattle.std.specs.Result.{result_ok}
use Rattle.std.specs.Str.Parse.{ParsesSigned, signed_digits_value}
use lib.Signed.{mag}
use mir.Syntax.{Width}
use Rattle.serde_json.proofs.Views.{Entry, members_len-members_view}
use Rattle.serde_json.specs.Data.{Data}
use Rattle.serde_json.specs.Find.{as_object}
use Rattle.serde_json.specs.View.{view, members_view}
use Rattle.qe_json_forms.specs.Forms.{fits, whole_in, only_member, has_members}

pub both : (a b : Bool) → (a && b) ≡ true → (a ≡ true) × (b ≡ true)
both true true e = (refl, refl)
both true false e = cc
both false b e = cc

-- an integer of so many bits fits the type
pub fits_32 : (z : ℤ) → fits 31 z ≡ true → FitsSigned w32 z × (mag z < 2 ^ 63)
fits_32 (pos n) e = let below = ltb-true n _ e in (record { sfits = below }, omega arith)
fits_32 (negsuc n) e = let below = ltb-true n _ e in (record { sfits = below }, omega arith)

pub fits_64 : (z : ℤ) → fits 63 z ≡ true → FitsSigned w64 z × (mag z < 2 ^ 63)
fits_64 (pos n) e = let below = ltb-true n _ e in (record { sfits = below }, below)
fits_64 (negsuc n) e = let below = ltb-true n _ e in (record { sfits = below }, below)

-- a text that `parse` refuses is not one in which an integer is written
pub whole_in-refused : {E : Type 0} (w : Width) (bits : ℕ) (text : List ℕ) (r : Result ℤ E) → ((z : ℤ) → fits bits z ≡ true → FitsSigned w z × (mag z < 2 ^ 63)) → None ≡ result_ok r → ParsesSigned w 10 text r → None ≡ whole_in bits text
whole_in-refused {E} w bits text r fit refused parsed = by_test (fits bits z && bytes_eq text (signed_decimal z)) refl
  where
    z : ℤ
    z = signed_digits_value 10 text

    by_test : (b : Bool) → (fits bits z && bytes_eq text (signed_decimal z)) ≡ b → None ≡ cond b (Some z) None
    by_test true h =
        let parts = both (fits bits z) _ h in
        let written : text ≡ signed_decimal z = (bytes_eq-Decides text (signed_decimal z)).0 parts.1 in
        let fitting = fit z parts.0 in
        let read : None ≡ Some z = refused ∙ ap result_ok (parse-signed_decimal w z text r fitting.0 fitting.1 written parsed) in cc
    by_test false h = refl

-- no entry or several are not one
pub only_of_others : (es : List Entry) → (length es ≡ 1 → ⊥) → None ≡ only_member (members_view es)
only_of_others [] other = refl
only_of_others (x ∷ []) other = absurd (other refl)
only_of_others (x ∷ (y ∷ es)) other = refl

-- the first of one entry is the only one
pub only_of_one : (es : List Entry) (e : Entry) → length es ≡ 1 → slice_get es 0 ≡ Some e → only_member (members_view es) ≡ Some (string_bytes e.0, view e.1)
only_of_one [] e one first = absurd (omega arith)
only_of_one (x ∷ []) e one first = let same : x ≡ e = cc in ap (λ (y : Entry). Some (string_bytes y.0, view y.1)) same
only_of_one (x ∷ (y ∷ es)) e one first = absurd (omega arith)

-- the names of an object are as many as its entries
pub has_members-entries : (d : Data) (es : List Entry) (n count : ℕ) → Some (members_view es) ≡ as_object d → n ≡ length es → nat_eq n count ≡ has_members count d
has_members-entries d es n count is_object counted =
    rw (← is_object) (ap (λ k. nat_eq k count) (counted ∙ sym (members_len-members_view es)))
