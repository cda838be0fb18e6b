-- The refusals that have a cause: all but want of memory.
use Rattle.std.specs.Prelude.{Option, None, Some}
use Rattle.qe_schema.specs.declared.fault.KeyFault.{KeyFault}
use Rattle.qe_schema.specs.declared.fault.KeyFault.TheVariants as k

abbrev pub key_refusal : KeyFault → Option KeyFault
key_refusal k.NoMemory = None
key_refusal fault = Some fault
