use Rattle.qe_protocol.proofs.StepLemmas.{next-parks}
use Rattle.qe_protocol.proofs.laws.a_mismatch_parks_what_is_left.Goals as goal

pub returns : goal.returns
returns c = next-parks
