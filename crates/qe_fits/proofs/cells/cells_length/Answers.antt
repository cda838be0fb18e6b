use Rattle.std.proofs.Common.{◌+◌, ap, ◌∙◌, drop, arith}
use Rattle.std.specs.Prelude.{slice_get}
use Rattle.std.proofs.lemmas.List.{drop_all}
use Rattle.qe_value.specs.Measures.{fields_length}
use Rattle.qe_value.proofs.DepthLemmas.{next}
use Rattle.qe_fits.specs.Sizes.{cell_element, cell_elements}
use Rattle.qe_fits.proofs.CountLemmas.{counted, fields_length-append, goes_on}
use Rattle.qe_fits.proofs.cells.cells_length.Goals as goal

pub returns : goal.returns
returns c =
    counted _ _ _ c.loop-cell.invariant.small
    (ap (λ xs. fields_length (cell_elements c.args.fields.now xs)) (drop_all c.loop-cell.cell-index c.args.cells.now c.loop-cell-test.false)) c.loop-cell.invariant.told

pub loop-cell-preserved : goal.loop-cell-preserved
loop-cell-preserved c =
    let fields = c.args.fields.now in
    let cells = c.args.cells.now in
    let i = c.loop-cell.cell-index in
    let left = next cells i c.cell-item.result c.loop-cell-test.true c.cell-item.is in
    let one = c.in_ok-next.ensures in
    let added = c.saturating_add-length.ensures in
    record {
      small = omega arith;
      told = goes_on c.loop-cell.length _ _ _ _ _ c.loop-cell.invariant.told
          (ap (λ xs. fields_length (cell_elements fields xs)) left ∙ fields_length-append (cell_element c.cell-item.result (slice_get fields c.cell-item.result.field)) (cell_elements fields (drop (i + 1) cells)))
          (omega arith);
    }
