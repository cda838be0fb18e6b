-- What a value is where it stands in a field, as an id, or in a filter.
use Rattle.std.specs.Prelude.{ℕ, ◌==◌, ◌||◌, ℤ, int_le, ◌&&◌, Bool, false, List, Option, None, Some}
use Rattle.qe_value.specs.declared.value.Plain.{Plain}
use Rattle.qe_value.specs.declared.value.Plain.TheVariants as p
use Rattle.qe_value.specs.Spelling.{spelled}
use Rattle.qe_value.specs.Types.{type_byte}

-- the byte of a value's type (bsonspec.org, BSON 1.1)
abbrev pub kind_of : Plain → ℕ
kind_of value = type_byte (spelled value).kind

-- an id is an int32, an int64, a string or an object id
abbrev pub is_id_kind : ℕ → Bool
is_id_kind kind = kind == 0x10 || (kind == 0x12 || (kind == 0x02 || kind == 0x07))

abbrev pub is_id : Plain → Bool
is_id value = is_id_kind (kind_of value)

-- the number of an integer
abbrev pub number_in : Plain → Option ℤ
number_in (p.Int32 z) = Some z
number_in (p.Int64 z) = Some z
number_in _ = None

-- whether there is a number, and it is neither below the one end nor above the other
abbrev pub lies_in : ℤ → ℤ → Option ℤ → Bool
lies_in lo hi None = false
lies_in lo hi (Some z) = int_le lo z && int_le z hi

-- the text of a string
abbrev pub text_in : Plain → Option (List ℕ)
text_in (p.Str text) = Some text
text_in _ = None
