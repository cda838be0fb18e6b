-- The forms of MongoDB Extended JSON v2 that stand for values: an object whose only name is a form's.
use Rattle.std.specs.Prelude.{ℕ, ℤ, pos, negsuc, ◌^◌, ◌==◌, ◌&&◌, nat_lt, Bool, false, List, slice_index, codes, bytes_eq, Option, None, Some, if◌then◌else◌}
use Rattle.std.specs.Fmt.{signed_decimal}
use Rattle.std.specs.Option.{option_map_or}
use Rattle.std.specs.Result.{result_ok}
use Rattle.std.specs.Str.Parse.{signed_digits_value}
use Rattle.std.specs.Borrow.{Bor}
use Rattle.base64.specs.Engines.{standard}
use Rattle.base64.specs.GeneralPurpose.{decode_of}
use Rattle.hex.specs.Hex.{decode_sized}
use Rattle.serde_json.specs.Data.{Data, Members, no_members, member}
use Rattle.serde_json.specs.Events.{members_len}
use Rattle.serde_json.specs.Find.{as_str, as_object, get}
use Rattle.serde_json.specs.View.{view}
use Rattle.serde_json.specs.declared.value.Value.{Value}
use Rattle.qe_value.specs.declared.value.Plain.{Plain}
use Rattle.qe_value.specs.declared.value.Plain.TheVariants as p
use Rattle.qe_json_forms.specs.declared.forms.Form.{Form}
use Rattle.qe_json_forms.specs.declared.forms.Form.TheVariants as form

infixl 10 ◌>>=◌
abbrev pub ◌>>=◌ : {A B : Type 0} → Option A → (A → Option B) → Option B
None >>= next = None
(Some x) >>= next = next x

-- whether an integer has a sign and so many bits
abbrev pub fits : ℕ → ℤ → Bool
fits bits (pos n) = nat_lt n (2 ^ bits)
fits bits (negsuc n) = nat_lt n (2 ^ bits)

-- the integer of a sign and so many bits, where the text is the one in which it is written: a minus below 0, and
-- decimal digits without a leading zero
abbrev pub whole_in : ℕ → List ℕ → Option ℤ
whole_in bits text =
    let z = signed_digits_value 10 text in
    if fits bits z && bytes_eq text (signed_decimal z) then Some z else None

-- the form of a name
abbrev pub form_named : List ℕ → Option Form
form_named name =
    if bytes_eq name (codes "$numberInt") then Some form.Int
    else if bytes_eq name (codes "$numberLong") then Some form.Long
    else if bytes_eq name (codes "$oid") then Some form.ObjectId
    else if bytes_eq name (codes "$binary") then Some form.Binary
    else if bytes_eq name (codes "$date") then Some form.Date
    else None

-- the name and the data of an object that has one
abbrev pub only_member : Members → Option (List ℕ × Data)
only_member (member name d no_members) = Some (name, d)
only_member _ = None

abbrev pub member_seen : Bor (List ℕ) × Bor Value → List ℕ × Data
member_seen x = (x.0.now, view x.1.now)

-- the form of an object, and what stands at its only name
abbrev pub form_of : Members → Option (Form × Data)
form_of ms = only_member ms >>= λ m. form_named m.0 >>= λ f. Some (f, m.1)

abbrev pub form_seen : Form × Bor Value → Form × Data
form_seen x = (x.0, view x.1.now)

-- the text at a name
abbrev pub member_text : List ℕ → Data → Option (List ℕ)
member_text name d = get name d >>= as_str

-- so many bytes, as two hex digits each
abbrev pub bytes_at : ℕ → Data → Option (List ℕ)
bytes_at count d = as_str d >>= λ text. result_ok (decode_sized text count)

abbrev pub whole_at : ℕ → Data → Option ℤ
whole_at bits d = as_str d >>= whole_in bits

-- the milliseconds of a date are the form of a long
abbrev pub long_form : Form × Data → Option ℤ
long_form (form.Long, d) = whole_at 63 d
long_form _ = None

abbrev pub date_at : Data → Option ℤ
date_at d = as_object d >>= form_of >>= long_form

-- an object of so many names
abbrev pub has_members : ℕ → Data → Bool
has_members count d = option_map_or (λ ms. members_len ms == count) (as_object d) false

abbrev pub first_byte : List ℕ → Option ℕ
first_byte bytes = Some (slice_index bytes 0)

abbrev pub subtype_at : Data → Option ℕ
subtype_at d = get (codes "subType") d >>= bytes_at 1 >>= first_byte

-- a subtype of two hex digits, and bytes in base64, as the standard engine writes it
unfoldable pub binary_at : Data → Option (ℕ × List ℕ)
binary_at d = do
  subtype ← subtype_at d
  text ← member_text (codes "base64") d
  bytes ← result_ok (decode_of standard text)
  if has_members 2 d then Some (subtype, bytes) else None

-- the value of a form, where this is its content
abbrev pub value_in : Form → Data → Option Plain
value_in form.Int d = whole_at 31 d >>= λ z. Some (p.Int32 z)
value_in form.Long d = whole_at 63 d >>= λ z. Some (p.Int64 z)
value_in form.ObjectId d = bytes_at 12 d >>= λ bytes. Some (p.ObjectId bytes)
value_in form.Binary d = binary_at d >>= λ b. Some (p.Binary b.0 b.1)
value_in form.Date d = date_at d >>= λ z. Some (p.Date z)
