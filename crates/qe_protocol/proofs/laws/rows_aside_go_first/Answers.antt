use Rattle.qe_protocol.proofs.UnitLemmas.{rows_go_first}
use Rattle.qe_protocol.proofs.laws.rows_aside_go_first.Goals as goal

pub returns : goal.returns
returns c = rows_go_first
