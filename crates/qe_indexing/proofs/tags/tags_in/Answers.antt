use Rattle.std.proofs.Common.{◌++◌, sym, ap₂, ◌∙◌}
use Rattle.qe_indexing.proofs.CellLemmas.{tags_of-more}
use Rattle.qe_indexing.proofs.tags.tags_in.Goals as goal

pub loop-cell-preserved : goal.loop-cell-preserved
loop-cell-preserved c =
    let i = c.loop-cell.cell-index in
    let cells = c.args.cells.now in
    let one = c.loop-cell-item.result in
    c.in_ok-extend.ensures.ok
    ∙ ap₂ (λ front back. front ++ back) c.loop-cell.invariant (c.slice.ensures ∙ c.in_ok-more.ensures)
    ∙ sym (tags_of-more cells i one c.loop-cell-test.true (sym c.loop-cell-item.is))
