use Rattle.std.proofs.Common.{arith}
use Rattle.qe_command_document.proofs.SlotLemmas.{filling_goes_on}
use Rattle.qe_command_document.proofs.documents.cells_in.Goals as goal

pub loop-i-preserved : goal.loop-i-preserved
loop-i-preserved c =
    filling_goes_on c.args.first c.loop-i.i c.args.slots c.loop-i.slots c.take-slot.new.self c.loop-i.cells c.put_cell.new.cells c.take-slot.result
    c.loop-i.invariant (omega (arith, c.requires.slots)) c.take-slot.ensures.taken c.take-slot.ensures.left c.in_ok-put_cell.ensures
