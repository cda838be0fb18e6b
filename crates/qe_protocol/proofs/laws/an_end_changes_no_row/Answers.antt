use Rattle.qe_protocol.proofs.JobLemmas.{ends_alone}
use Rattle.qe_protocol.proofs.laws.an_end_changes_no_row.Goals as goal

pub returns : goal.returns
returns c = ends_alone
