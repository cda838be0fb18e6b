-- How single values are read.
use Rattle.std.specs.Prelude.{ℕ, ◌==◌, nat_lt, ℤ, pos, negsuc, List, length, if◌then◌else◌, Result, Ok}
use Rattle.qe_value.specs.declared.value.Plain.TheVariants.{Binary, Int32, Int64}
use Rattle.qe_layout.specs.declared.malformed.Kind.TheVariants.{WrongType, WrongLength, Negative}
use Rattle.qe_layout.specs.Refusal.{Refusal, wrong}
use Rattle.qe_layout.specs.Layouts.{Reader}

-- a binary of a subtype and of so many bytes
abbrev pub fixed_reads : ℕ → ℕ → Reader (List ℕ)
fixed_reads subtype count name (Binary other bytes) =
    if other == subtype then (if length bytes == count then Ok bytes else wrong name (WrongLength (length bytes))) else wrong name WrongType
fixed_reads subtype count name _ = wrong name WrongType

-- a binary of a subtype and of so many bytes or more
abbrev pub bytes_reads : ℕ → ℕ → Reader (List ℕ)
bytes_reads subtype least name (Binary other bytes) =
    if other == subtype then (if nat_lt (length bytes) least then wrong name (WrongLength (length bytes)) else Ok bytes) else wrong name WrongType
bytes_reads subtype least name _ = wrong name WrongType

abbrev pub int32_reads : Reader ℤ
int32_reads name (Int32 number) = Ok number
int32_reads name _ = wrong name WrongType

abbrev pub natural_from : List ℕ → ℤ → Result ℤ Refusal
natural_from name (pos n) = Ok (pos n)
natural_from name (negsuc n) = wrong name Negative

-- an int64 of 0 or more
abbrev pub natural_reads : Reader ℤ
natural_reads name (Int64 number) = natural_from name number
natural_reads name _ = wrong name WrongType
