use Rattle.qe_protocol.proofs.UnitLemmas.{mismatch_stays}
use Rattle.qe_protocol.proofs.laws.a_mismatched_row_stays.Goals as goal

pub returns : goal.returns
returns c = mismatch_stays
