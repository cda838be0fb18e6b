-- The refusals that have a cause: all but want of memory.
use Rattle.std.specs.Prelude.{Option, None, Some}
use Rattle.qe_texts.specs.declared.fault.PrintFault.{PrintFault}
use Rattle.qe_texts.specs.declared.fault.PrintFault.TheVariants as f

abbrev pub print_refusal : PrintFault → Option PrintFault
print_refusal f.NoMemory = None
print_refusal fault = Some fault
