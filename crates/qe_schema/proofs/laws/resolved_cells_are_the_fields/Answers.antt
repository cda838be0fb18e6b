use Rattle.qe_schema.proofs.CellLemmas.{are_cells}
use Rattle.qe_schema.proofs.laws.resolved_cells_are_the_fields.Goals as goal

pub returns : goal.returns
returns c = are_cells
