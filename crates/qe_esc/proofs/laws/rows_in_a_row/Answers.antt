use Rattle.qe_esc.proofs.LawLemmas.{only_boundary}
use Rattle.qe_esc.proofs.laws.rows_in_a_row.Goals as goal

pub returns : goal.returns
returns c = only_boundary
