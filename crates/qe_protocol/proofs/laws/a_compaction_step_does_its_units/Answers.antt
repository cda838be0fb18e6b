use Rattle.qe_protocol.proofs.StepLemmas.{steps_on}
use Rattle.qe_protocol.proofs.laws.a_compaction_step_does_its_units.Goals as goal

pub returns : goal.returns
returns c = steps_on
