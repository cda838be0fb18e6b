use Rattle.qe_standing.proofs.ReadLemmas.{replies_are_read}
use Rattle.qe_standing.proofs.laws.what_is_stored_can_be_read.Goals as goal

pub returns : goal.returns
returns c = replies_are_read
