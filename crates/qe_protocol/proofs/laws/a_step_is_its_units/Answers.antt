use Rattle.qe_protocol.proofs.UnitLemmas.{goes_on}
use Rattle.qe_protocol.proofs.StepLemmas.{steps_join}
use Rattle.qe_protocol.proofs.laws.a_step_is_its_units.Goals as goal

pub returns-clause-units : goal.returns-clause-units
returns-clause-units c = goes_on

pub returns-clause-steps : goal.returns-clause-steps
returns-clause-steps c = steps_join
