use Rattle.std.proofs.Common.{ℕ, All, subst, take_all}
use Rattle.std.proofs.lemmas.List.Elements.{All-more}
use Rattle.qe_command.specs.declared.cells.SentCell.{SentCell}
use Rattle.qe_held.specs.Held.{AreHeldCells, IsHeldCell}
use Rattle.qe_held.proofs.held.cells_held.Goals as goal

pub loop-cell-preserved : goal.loop-cell-preserved
loop-cell-preserved c =
    All-more (λ (cell : ℕ × SentCell). IsHeldCell cell.1) c.args.cells.now c.loop-cell.cell-index c.loop-cell-item.result c.loop-cell-test.true c.loop-cell.invariant
    (subst (λ (cell : ℕ × SentCell). IsHeldCell cell.1) c.loop-cell-item.is c.cell_held.ensures)

pub returns : goal.returns
returns c = subst AreHeldCells (take_all c.loop-cell.cell-index c.args.cells.now c.loop-cell-test.false) c.loop-cell.invariant
