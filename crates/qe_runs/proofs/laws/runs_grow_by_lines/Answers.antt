use Rattle.qe_runs.proofs.RunLemmas.{runs_grow}
use Rattle.qe_runs.proofs.laws.runs_grow_by_lines.Goals as goal

pub returns : goal.returns
returns c = runs_grow
