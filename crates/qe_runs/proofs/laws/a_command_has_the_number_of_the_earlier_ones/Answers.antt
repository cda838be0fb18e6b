use Rattle.qe_runs.proofs.RunLemmas.{callers_count}
use Rattle.qe_runs.proofs.laws.a_command_has_the_number_of_the_earlier_ones.Goals as goal

pub returns : goal.returns
returns c = callers_count
