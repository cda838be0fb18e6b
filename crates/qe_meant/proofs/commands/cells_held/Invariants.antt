-- The cells so far are held.
use Rattle.std.proofs.Common.{All, take}
use Rattle.qe_meant.specs.Held.{IsHeldCell}
use Rattle.qe_meant.proofs.commands.cells_held.Given as goal

abbrev pub invariant-loop-cell : goal.invariant-loop-cell
invariant-loop-cell l = All IsHeldCell (take l.cell-index l.cells)
