-- Why a line isn't played, by what it comes from.
use Rattle.qe_opening.specs.declared.fault.ReadFault.{ReadFault}
use Rattle.qe_opening.specs.declared.fault.ReadFault.TheVariants as r
use Rattle.qe_line_played.specs.declared.fault.PlayFault.{PlayFault}
use Rattle.qe_line_played.specs.declared.fault.PlayFault.TheVariants as f

-- want of memory is passed on as such
abbrev pub of_read : ReadFault → PlayFault
of_read (r.At field kind) = f.Read (r.At field kind)
of_read r.NoMemory = f.NoMemory
