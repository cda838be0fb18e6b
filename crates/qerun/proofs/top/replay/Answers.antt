use Rattle.qerun.proofs.OutcomeLemmas.{outcome_completes}
use Rattle.qerun.proofs.top.replay.Goals as goal

pub returns-clause-complete : goal.returns-clause-complete
returns-clause-complete g c = outcome_completes c.what_is_due_has_one_status.ensures _ _ c.outcome-status.ensures.outcome
