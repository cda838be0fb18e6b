use Rattle.qe_protocol.proofs.UnitLemmas.{units_take}
use Rattle.qe_protocol.proofs.laws.a_unit_takes_what_is_first.Goals as goal

pub returns : goal.returns
returns c = units_take
