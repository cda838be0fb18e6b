-- For private clauses: sizes as counts of 32 bits.
use Rattle.std.specs.Prelude.{ℕ, ◌+◌, ◌-◌, ◌^◌, min, List, length, map}
use Rattle.qe_value.specs.declared.value.Plain.{Plain}
use Rattle.qe_value.specs.declared.value.Value.{Value}
use Rattle.qe_value.specs.declared.value.Value.TheVariants as v
use Rattle.qe_value.specs.Measures.{value_length}
use Rattle.qe_fits.specs.Sizes.{array_size}

-- a count of 32 bits: what is more stays at the greatest
abbrev pub capped : ℕ → ℕ
capped n = min n (2 ^ 32 - 1)

-- an array of values
abbrev pub values_size : List Plain → ℕ
values_size values = array_size (map value_length values)

-- the bytes of a value that holds no other
abbrev pub leaf_length : Value → ℕ
leaf_length (v.Str text) = length text + 5
leaf_length (v.Binary subtype bytes) = length bytes + 5
leaf_length (v.Double bytes) = length bytes
leaf_length (v.ObjectId bytes) = length bytes
leaf_length (v.Decimal bytes) = length bytes
leaf_length (v.Date z) = 8
leaf_length (v.Int64 z) = 8
leaf_length (v.Timestamp n) = 8
leaf_length (v.Int32 z) = 4
leaf_length (v.Bool b) = 1
leaf_length _ = 0
