use Rattle.qe_command_written.specs.Faults.{cell_fault}
use Rattle.qe_command_written.specs.Parts.{FitsCell, CellAgain}
use Rattle.qe_command_written.specs.Written.{cell_element}
use Rattle.qe_command_written.proofs.PutLemmas.{Put}
use Rattle.qe_command_written.proofs.cells.put_cells.Given as goal

abbrev pub invariant-loop-number : goal.invariant-loop-number
invariant-loop-number l =
    Put (cell_element l.fields) (λ cell. cell_fault cell.1) (λ cell. FitsCell cell.1) (λ cell. CellAgain cell.1) l.fn.document l.cells l.number-index l.document
