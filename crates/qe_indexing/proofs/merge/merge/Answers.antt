use Rattle.std.proofs.Common.{◌∷◌, ◌++◌, [], sym, ap, ap₂, ◌∙◌, subst}
use Rattle.qe_store.specs.Cells.{AreRising}
use Rattle.qe_protocol.specs.Documents.{put_cells}
use Rattle.qe_indexing.proofs.MergeLemmas.{rising_so_far}
use Rattle.qe_indexing.proofs.merge.merge.Goals as goal

pub push-requires : goal.push-requires
push-requires c =
    let all = c.loop-next.all in
    let cell = c.in-Some.next.cell.now in
    let next = c.in-Some.ensures.some in
    let is = c.loop-next.invariant.is ∙ ap (λ rest. all ++ rest) (ap₂ put_cells (sym c.cells_from.ensures.cells) (sym c.cells_from-in-loop-next.ensures.cells) ∙ next.is) in
    subst (λ value. AreRising (all ++ (cell.0, value) ∷ [])) (sym c.in_ok-copy.ensures)
    (rising_so_far c.args.cells.now c.args.set.now all cell _ c.requires.cells is)
