use Rattle.std.specs.Prelude.{take}
use Rattle.qe_held.specs.Held.{AreHeldCells}
use Rattle.qe_held.proofs.held.cells_held.Given as goal

-- the cells that were read
abbrev pub invariant-loop-cell : goal.invariant-loop-cell
invariant-loop-cell l = AreHeldCells (take l.cell-index l.cells)
