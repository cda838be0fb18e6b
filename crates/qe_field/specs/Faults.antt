-- The refusals that have a cause: all but want of memory.
use Rattle.std.specs.Prelude.{Option, None, Some}
use Rattle.qe_field.specs.declared.fault.SchemaFault.{SchemaFault}
use Rattle.qe_field.specs.declared.fault.SchemaFault.TheVariants as s

abbrev pub schema_refusal : SchemaFault → Option SchemaFault
schema_refusal s.NoMemory = None
schema_refusal fault = Some fault
