use Rattle.qe_protocol.proofs.JobLemmas.{fresh_takes_all}
use Rattle.qe_protocol.proofs.laws.a_fresh_begin_takes_all.Goals as goal

pub returns : goal.returns
returns c = fresh_takes_all
