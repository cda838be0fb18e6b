use Rattle.qe_command_document.proofs.SlotLemmas.{Filling}
use Rattle.qe_command_document.proofs.documents.cells_in.Given as goal

abbrev pub invariant-loop-i : goal.invariant-loop-i
invariant-loop-i l = Filling l.first l.i l.fn.slots l.slots l.cells
