use Rattle.qe_opening.proofs.LawLemmas.{journals_are_read}
use Rattle.qe_opening.proofs.laws.what_is_answered_is_read.Goals as goal

pub returns : goal.returns
returns c = journals_are_read
