-- The refusals that have a cause: all but want of memory.
use Rattle.std.specs.Prelude.{Option, None, Some}
use Rattle.qe_filter.specs.declared.fault.PlainFault.{PlainFault}
use Rattle.qe_filter.specs.declared.fault.PlainFault.TheVariants as f

abbrev pub plain_refusal : PlainFault → Option PlainFault
plain_refusal f.NoMemory = None
plain_refusal fault = Some fault
