use Rattle.qe_runs.proofs.RunLemmas.{run_encoded}
use Rattle.qe_runs.proofs.laws.a_run_is_encoded.Goals as goal

pub returns : goal.returns
returns c = run_encoded
