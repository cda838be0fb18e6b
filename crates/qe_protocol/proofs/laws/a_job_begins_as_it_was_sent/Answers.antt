use Rattle.qe_protocol.proofs.JobLemmas.{starts_as_sent}
use Rattle.qe_protocol.proofs.laws.a_job_begins_as_it_was_sent.Goals as goal

pub returns : goal.returns
returns c = starts_as_sent
