-- Which faults a definition gives: all but want of memory.
use Rattle.std.specs.Prelude.{Option, None, Some}
use Rattle.qe_value.specs.declared.fault.BsonFault.{BsonFault}
use Rattle.qe_value.specs.declared.fault.BsonFault.TheVariants as bson
use Rattle.qe_value.specs.declared.fault.EncodeFault.{EncodeFault}
use Rattle.qe_value.specs.declared.fault.EncodeFault.TheVariants as encoding

abbrev pub bson_refusal : BsonFault → Option BsonFault
bson_refusal (bson.At place kind) = Some (bson.At place kind)
bson_refusal bson.NoMemory = None

abbrev pub encode_refusal : EncodeFault → Option EncodeFault
encode_refusal encoding.NoMemory = None
encode_refusal fault = Some fault
