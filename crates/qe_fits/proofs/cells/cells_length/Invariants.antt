-- The bytes counted, and those of the cells to come, are all bytes.
use Rattle.std.proofs.Common.{◌≡◌, ◌+◌, ◌-◌, ◌^◌, ◌≤◌, drop}
use Rattle.qe_value.specs.Measures.{fields_length}
use Rattle.qe_fits.specs.Counts.{capped}
use Rattle.qe_fits.specs.Sizes.{cell_elements}
use Rattle.qe_fits.proofs.cells.cells_length.Given as goal

abbrev pub invariant-loop-cell : goal.invariant-loop-cell
invariant-loop-cell l = record {
  small : l.length ≤ 2 ^ 32 - 1;
  told : capped (l.length + fields_length (cell_elements l.fields (drop l.cell-index l.cells))) ≡ capped (fields_length (cell_elements l.fields l.cells));
}
