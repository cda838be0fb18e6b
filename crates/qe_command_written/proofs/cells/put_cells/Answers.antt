use Rattle.std.proofs.Common.{[], ◌∷◌, ◌++◌, ap, ◌∙◌}
use Rattle.std.proofs.lemmas.Result.{err_from_is_err_and}
use Rattle.qe_document.specs.Names.{is_named}
use Rattle.qe_document.specs.Faults.{encode_refusal}
use Rattle.qe_command_written.specs.Faults.{cell_fault, cells_fault}
use Rattle.qe_command_written.specs.Parts.{FitsCell, CellAgain}
use Rattle.qe_command_written.specs.Written.{cell_element, cell_elements, cell_value}
use Rattle.qe_command_written.proofs.DueLemmas.{unless_ok, refused_so}
use Rattle.qe_command_written.proofs.PutLemmas.{put_new, put_goes_on, put_refused}
use Rattle.qe_command_written.proofs.cells.put_cells.Goals as goal

pub put_cell-requires-clause-new : goal.put_cell-requires-clause-new
put_cell-requires-clause-new c =
    ap (λ path. is_named path c.loop-number.document) c.path_at.ensures
    ∙ put_new (cell_element c.args.fields.now) (λ cell. cell_fault cell.1) (λ cell. FitsCell cell.1) (λ cell. CellAgain cell.1) c.args.document c.loop-number.document c.args.cells.now
    c.loop-number.number-index c.loop-number-item.result c.loop-number.invariant c.requires.apart c.loop-number-test.true c.loop-number-item.is

pub returns-in_err-document-clause-exact : goal.returns-in_err-document-clause-exact
returns-in_err-document-clause-exact c =
    let fields = c.args.fields.now in
    let item = c.loop-number-item.result in
    let p = err_from_is_err_and c.from_residual.result c.from_residual.ensures.1 in
    rw (p.1, p.2)
    (refused_so (encode_refusal c.in_err-document.field-0.0) (cell_fault item.1) (cells_fault c.args.cells.now)
    (c.loop-number.document ++ (c.path_at.result.now, cell_value item.1) ∷ []) (c.args.document ++ cell_elements fields c.args.cells.now)
    (λ e fails. put_refused (cell_element fields) (λ cell. cell_fault cell.1) (λ cell. FitsCell cell.1) (λ cell. CellAgain cell.1) c.args.document c.loop-number.document c.args.cells.now
    c.loop-number.number-index item c.loop-number.invariant c.loop-number-test.true c.loop-number-item.is e fails)
    c.in_err-document.ensures.exact)

pub loop-number-preserved : goal.loop-number-preserved
loop-number-preserved c =
    let fields = c.args.fields.now in
    let item = c.loop-number-item.result in
    let now = c.loop-number.document in
    let made = unless_ok (cell_fault item.1) (now ++ (c.path_at.result.now, cell_value item.1) ∷ []) c.in_ok-document.document c.in_ok-document.ensures.exact in
    put_goes_on (cell_element fields) (λ cell. cell_fault cell.1) (λ cell. FitsCell cell.1) (λ cell. CellAgain cell.1) c.args.document now c.in_ok-document.document c.args.cells.now
    c.loop-number.number-index item c.loop-number.invariant c.loop-number-test.true c.loop-number-item.is made.0
    (made.1 ∙ ap (λ path. now ++ (path, cell_value item.1) ∷ []) c.path_at.ensures) c.in_ok-document.ensures.again
