-- The cells to come are tested as all were.
use Rattle.std.proofs.Common.{◌≡◌, drop}
use Rattle.std.specs.List.{list_any}
use Rattle.qe_fits.specs.Fits.{is_bad_cell}
use Rattle.qe_fits.proofs.cells.has_bad_cell.Given as goal

abbrev pub invariant-loop-cell : goal.invariant-loop-cell
invariant-loop-cell l = list_any (is_bad_cell l.fields) (drop l.cell-index l.cells) ≡ list_any (is_bad_cell l.fields) l.cells
