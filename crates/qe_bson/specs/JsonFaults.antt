-- Which faults a definition gives: all but want of memory.
use Rattle.std.specs.Prelude.{Option, None, Some}
use Rattle.qe_bson.specs.declared.extended_json.fault.JsonFault.{JsonFault}
use Rattle.qe_bson.specs.declared.extended_json.fault.JsonFault.TheVariants.{NoMemory}

abbrev pub json_refusal : JsonFault → Option JsonFault
json_refusal NoMemory = None
json_refusal fault = Some fault
