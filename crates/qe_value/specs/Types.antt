-- The types of elements (bsonspec.org, version 1.1) that the project has, and their bytes.
use Rattle.std.specs.Prelude.{ℕ, ◌==◌, Option, None, Some, if◌then◌else◌}
use Rattle.qe_value.specs.declared.element_type.ElementType.{ElementType}
use Rattle.qe_value.specs.declared.element_type.ElementType.TheVariants as type

abbrev pub type_byte : ElementType → ℕ
type_byte type.Double = 0x01
type_byte type.Str = 0x02
type_byte type.Doc = 0x03
type_byte type.Array = 0x04
type_byte type.Binary = 0x05
type_byte type.ObjectId = 0x07
type_byte type.Bool = 0x08
type_byte type.Date = 0x09
type_byte type.Null = 0x0a
type_byte type.Int32 = 0x10
type_byte type.Timestamp = 0x11
type_byte type.Int64 = 0x12
type_byte type.Decimal = 0x13

-- the type of a byte; every other byte is refused
unfoldable pub type_of : ℕ → Option ElementType
type_of b =
    if b == 0x01 then Some type.Double
    else if b == 0x02 then Some type.Str
    else if b == 0x03 then Some type.Doc
    else if b == 0x04 then Some type.Array
    else if b == 0x05 then Some type.Binary
    else if b == 0x07 then Some type.ObjectId
    else if b == 0x08 then Some type.Bool
    else if b == 0x09 then Some type.Date
    else if b == 0x0a then Some type.Null
    else if b == 0x10 then Some type.Int32
    else if b == 0x11 then Some type.Timestamp
    else if b == 0x12 then Some type.Int64
    else if b == 0x13 then Some type.Decimal
    else None
