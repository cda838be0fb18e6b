use Rattle.qe_protocol.proofs.WriteLemmas.{units_write}
use Rattle.qe_protocol.proofs.laws.a_unit_writes_what_was_counted.Goals as goal

pub returns : goal.returns
returns c = units_write
