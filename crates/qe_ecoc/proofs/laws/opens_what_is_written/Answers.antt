use Rattle.qe_ecoc.proofs.OpeningLemmas.{opened-written}
use Rattle.qe_ecoc.proofs.laws.opens_what_is_written.Goals as goal

pub returns : goal.returns
returns c = opened-written
