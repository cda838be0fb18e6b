-- Faults of reading, by what they come from.
use Rattle.std.specs.Prelude.{Option, None, Some}
use Rattle.qe_indexed.specs.declared.fault.IndexedFault.{IndexedFault}
use Rattle.qe_indexed.specs.declared.fault.IndexedFault.TheVariants as indexed
use Rattle.qe_seal.specs.declared.sealed.SealFault.{SealFault}
use Rattle.qe_seal.specs.declared.sealed.SealFault.TheVariants as seal
use Rattle.qe_value.specs.declared.fault.BsonFault.{BsonFault}
use Rattle.qe_value.specs.declared.fault.BsonFault.TheVariants as bson
use Rattle.qe_opening.specs.declared.fault.OpenFault.{OpenFault}
use Rattle.qe_opening.specs.declared.fault.OpenFault.TheVariants as o
use Rattle.qe_opening.specs.declared.fault.ReadFault.{ReadFault}
use Rattle.qe_opening.specs.declared.fault.ReadFault.TheVariants as r
use Rattle.qe_opening.specs.declared.fault.ReadKind.{ReadKind}
use Rattle.qe_opening.specs.declared.fault.ReadKind.TheVariants.{Indexed, Seal, Bson}

-- faults of another cause than want of memory
abbrev pub read_refusal : ReadFault → Option ReadFault
read_refusal (r.At field kind) = Some (r.At field kind)
read_refusal r.NoMemory = None

abbrev pub open_refusal : OpenFault → Option ReadKind
open_refusal (o.Kind kind) = Some kind
open_refusal o.NoMemory = None

-- an inner want of memory is passed on as the outer one
abbrev pub of_indexed : IndexedFault → OpenFault
of_indexed indexed.NoMemory = o.NoMemory
of_indexed (indexed.BlobSubtype first) = o.Kind (Indexed (indexed.BlobSubtype first))
of_indexed indexed.Short = o.Kind (Indexed indexed.Short)
of_indexed indexed.EdgeCountZero = o.Kind (Indexed indexed.EdgeCountZero)
of_indexed indexed.LengthWrong = o.Kind (Indexed indexed.LengthWrong)

abbrev pub of_seal : SealFault → OpenFault
of_seal seal.NoMemory = o.NoMemory
of_seal seal.TooShort = o.Kind (Seal seal.TooShort)
of_seal (seal.MacDiffers want got) = o.Kind (Seal (seal.MacDiffers want got))
of_seal seal.BadLength = o.Kind (Seal seal.BadLength)
of_seal seal.BadPadding = o.Kind (Seal seal.BadPadding)

abbrev pub of_bson : BsonFault → OpenFault
of_bson bson.NoMemory = o.NoMemory
of_bson (bson.At place kind) = o.Kind (Bson (bson.At place kind))
