use Rattle.qe_protocol.proofs.LastLemmas.{next-last}
use Rattle.qe_protocol.proofs.laws.jobs_are_numbered.Goals as goal

pub returns : goal.returns
returns c = next-last
