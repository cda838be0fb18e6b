use Rattle.qe_command_document.proofs.SlotLemmas.{rising_push}
use Rattle.qe_command_document.proofs.documents.put_cell.Goals as goal

pub push-requires : goal.push-requires
push-requires c = rising_push c.args.cells.now c.args.number c.in-Some-Cell.cell c.len-count.ensures.rising c.requires
