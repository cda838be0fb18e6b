-- A tree as the value that it is the tree of.
use Rattle.qe_value.specs.declared.value.Plain.{Plain, out-Plain}
use Rattle.qe_value.specs.declared.value.Plain.TheOpen.{Plain-F}
use Rattle.qe_value.specs.declared.value.Value.{Value}
use Rattle.qe_value.specs.declared.value.Value.TheVariants as v

abbrev pub open_value : Plain-F Plain → Value
open_value (Plain-F.Double bytes) = v.Double bytes
open_value (Plain-F.Str text) = v.Str text
open_value (Plain-F.Doc fields) = v.Doc fields
open_value (Plain-F.Array items) = v.Array items
open_value (Plain-F.Binary subtype bytes) = v.Binary subtype bytes
open_value (Plain-F.ObjectId bytes) = v.ObjectId bytes
open_value (Plain-F.Bool b) = v.Bool b
open_value (Plain-F.Date z) = v.Date z
open_value Plain-F.Null = v.Null
open_value (Plain-F.Int32 z) = v.Int32 z
open_value (Plain-F.Timestamp n) = v.Timestamp n
open_value (Plain-F.Int64 z) = v.Int64 z
open_value (Plain-F.Decimal bytes) = v.Decimal bytes

unfoldable pub value_of : Plain → Value
value_of tree = open_value (out-Plain tree)
