use Rattle.std.proofs.Common.{All, subst, take_all}
use Rattle.std.proofs.lemmas.List.Elements.{All-more}
use Rattle.qe_meant.specs.Held.{IsHeldCell}
use Rattle.qe_meant.proofs.commands.cells_held.Goals as goal

pub loop-cell-preserved : goal.loop-cell-preserved
loop-cell-preserved c =
    All-more IsHeldCell c.args.cells.now c.loop-cell.cell-index c.cell-item.result c.loop-cell-test.true c.loop-cell.invariant
    (subst IsHeldCell c.cell-item.is c.cell_held.ensures)

pub returns : goal.returns
returns c = subst (All IsHeldCell) (take_all c.loop-cell.cell-index c.args.cells.now c.loop-cell-test.false) c.loop-cell.invariant
