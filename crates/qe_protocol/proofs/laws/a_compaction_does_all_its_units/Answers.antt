use Rattle.qe_protocol.proofs.UnitLemmas.{compacts_all}
use Rattle.qe_protocol.proofs.laws.a_compaction_does_all_its_units.Goals as goal

pub returns : goal.returns
returns c = compacts_all
