use Rattle.qe_protocol.proofs.JobLemmas.{resumes_parked}
use Rattle.qe_protocol.proofs.laws.a_resumed_begin_leaves_all_lists.Goals as goal

pub returns : goal.returns
returns c = resumes_parked
