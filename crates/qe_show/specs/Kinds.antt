-- The names of refusals, with their numbers behind them.
use Rattle.std.specs.Prelude.{ℕ, List, ◌++◌, codes}
use Rattle.std.specs.Fmt.{decimal, signed_decimal}
use Rattle.qe_value.specs.declared.fault.BsonFault.{BsonFault}
use Rattle.qe_value.specs.declared.fault.BsonFault.TheVariants as bson
use Rattle.qe_value.specs.declared.fault.BsonKind.{BsonKind}
use Rattle.qe_value.specs.declared.fault.BsonKind.TheVariants as place
use Rattle.qe_indexed.specs.declared.fault.IndexedFault.{IndexedFault}
use Rattle.qe_indexed.specs.declared.fault.IndexedFault.TheVariants as indexed
use Rattle.qe_layout.specs.declared.malformed.Kind.{Kind}
use Rattle.qe_layout.specs.declared.malformed.Kind.TheVariants as kind

abbrev pub with_number : List ℕ → ℕ → List ℕ
with_number name number = name ++ (codes " " ++ decimal number)

unfoldable pub bson_kind_text : BsonKind → List ℕ
bson_kind_text place.Short = codes "Short"
bson_kind_text place.LengthWrong = codes "LengthWrong"
bson_kind_text place.TooLong = codes "TooLong"
bson_kind_text place.NoTerminator = codes "NoTerminator"
bson_kind_text place.TypeUnknown = codes "TypeUnknown"
bson_kind_text place.NotUtf8 = codes "NotUtf8"
bson_kind_text place.DuplicateName = codes "DuplicateName"
bson_kind_text place.ArrayKey = codes "ArrayKey"
bson_kind_text place.BadBool = codes "BadBool"
bson_kind_text place.TooDeep = codes "TooDeep"

-- a fault of BSON has its kind and its place
unfoldable pub bson_text : BsonFault → List ℕ
bson_text (bson.At place kind) = codes "Bson " ++ with_number (bson_kind_text kind) place
bson_text bson.NoMemory = codes "Bson"

unfoldable pub kind_text : Kind → List ℕ
kind_text kind.Empty = codes "Empty"
kind_text (kind.BlobSubtype first) = with_number (codes "BlobSubtype") first
kind_text (kind.Bson fault) = bson_text fault
kind_text (kind.Trailing count) = with_number (codes "Trailing") count
kind_text kind.Unknown = codes "Unknown"
kind_text kind.WrongType = codes "WrongType"
kind_text (kind.WrongLength length) = with_number (codes "WrongLength") length
kind_text kind.Negative = codes "Negative"
kind_text kind.NoEdges = codes "NoEdges"
kind_text (kind.TooManyEdges count) = with_number (codes "TooManyEdges") count
kind_text kind.ProfileOperator = codes "ProfileOperator"
kind_text kind.Missing = codes "Missing"
kind_text kind.UnknownOp = codes "UnknownOp"
kind_text kind.ReservedName = codes "ReservedName"
kind_text kind.NotInSchema = codes "NotInSchema"
kind_text kind.KindDiffers = codes "KindDiffers"
kind_text kind.KeyDiffers = codes "KeyDiffers"
kind_text (kind.ContentionAbove got limit) = with_number (with_number (codes "ContentionAbove") got) limit
kind_text (kind.BadLimit limit) = codes "BadLimit " ++ signed_decimal limit

unfoldable pub indexed_text : IndexedFault → List ℕ
indexed_text (indexed.BlobSubtype first) = with_number (codes "BlobSubtype") first
indexed_text indexed.Short = codes "Short"
indexed_text indexed.EdgeCountZero = codes "EdgeCountZero"
indexed_text indexed.LengthWrong = codes "LengthWrong"
indexed_text indexed.NoMemory = codes "NoMemory"
