use Rattle.std.proofs.Common.{sym, subst}
use Rattle.std.proofs.lemmas.List.{take_all}
use Rattle.qe_indexing.specs.Plans.{index_in}
use Rattle.qe_indexing.specs.Cells.{CellsPlanned}
use Rattle.qe_indexing.proofs.CellLemmas.{cells_end, rising_next}
use Rattle.qe_indexing.proofs.cells.index_all.Goals as goal

pub push-requires : goal.push-requires
push-requires c =
    (rising_next c.args.cells.now c.loop-field.field-index c.loop-field-item.result c.loop-field.made c.in_ok-stored.stored c.requires.rising c.loop-field-test.true
    (sym c.loop-field-item.is) c.loop-field.invariant.fields).0

pub returns : goal.returns
returns c =
    subst (λ cells. CellsPlanned (index_in c.args.standing.now) cells c.args.nonces.now c.args.plan.now c.loop-field.plan c.loop-field.made)
    (take_all c.loop-field.field-index c.args.cells.now c.loop-field-test.false)
    (cells_end (index_in c.args.standing.now) _ _ _ _ _ _ c.loop-field.invariant.so_far)
