-- Values of a field's type.
use Rattle.std.specs.Prelude.{ℕ, ◌==◌, ◌||◌, ℤ, Option, None, Some, if◌then◌else◌}
use Rattle.qe_value.specs.declared.value.Plain.{Plain}
use Rattle.qe_value.specs.declared.value.Plain.TheVariants as p
use Rattle.qe_field.specs.Values.{kind_of}

-- an int32, for a field of int64
abbrev pub widened : ℕ → Plain → Option Plain
widened kind (p.Int32 z) = if kind == 0x12 then Some (p.Int64 z) else None
widened kind _ = None

-- a value as one of a type: it has the type, or is an int32 that is widened
abbrev pub typed : ℕ → Plain → Option Plain
typed kind value = if kind_of value == kind then Some value else widened kind value

-- the number of a value of an integer type
abbrev pub number_of : ℕ → Plain → Option ℤ
number_of kind (p.Int32 z) = if kind == 0x10 || kind == 0x12 then Some z else None
number_of kind (p.Int64 z) = if kind == 0x12 then Some z else None
number_of kind _ = None
