use Rattle.qe_plain.proofs.CollectionLemmas.{step_keeps, replays_make}
use Rattle.qe_plain.proofs.laws.a_step_keeps_a_collection.Goals as goal

pub returns-clause-step : goal.returns-clause-step
returns-clause-step c = step_keeps

pub returns-clause-replay : goal.returns-clause-replay
returns-clause-replay c = replays_make
