-- The members, with the cells to come, are those with all cells.
use Rattle.std.proofs.Common.{◌≡◌, drop}
use Rattle.serde_json.specs.View.{members_view}
use Rattle.qe_texts.specs.Documents.{with_cells}
use Rattle.qe_texts.proofs.document.put_cells.Given as goal

abbrev pub invariant-loop-cell : goal.invariant-loop-cell
invariant-loop-cell l =
    with_cells l.fields (drop l.cell-index l.cells) (members_view l.members.entries)
    ≡ with_cells l.fields l.cells (members_view l.initial.members.entries)
