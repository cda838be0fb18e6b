use Rattle.std.proofs.Common.{sym, subst}
use Rattle.qe_store.specs.declared.stored.Cell.TheVariants as kept
use Rattle.qe_indexing.specs.Plans.{index_in}
use Rattle.qe_indexing.specs.Cells.{CellPlanned}
use Rattle.qe_indexing.proofs.CellLemmas.{value_cell}
use Rattle.qe_indexing.proofs.cells.index_cell.Goals as goal

pub returns-in_ok-index_value-in-Payload : goal.returns-in_ok-index_value-in-Payload
returns-in_ok-index_value-in-Payload c =
    subst (λ cell. CellPlanned (index_in c.args.standing.now) c.args.field cell c.args.nonces.now c.args.plan.now c.index_value.new.plan (kept.Indexed c.in_ok-index_value-in-Payload.field-0)) (sym c.in-Payload.is)
    (value_cell (index_in c.args.standing.now) c.args.field c.in-Payload.payload c.args.nonces.now c.args.plan.now c.index_value.new.plan _ c.in_ok-index_value-in-Payload.ensures)
