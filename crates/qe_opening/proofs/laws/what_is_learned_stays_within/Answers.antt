use Rattle.qe_opening.proofs.LearnedLemmas.{learns_within}
use Rattle.qe_opening.proofs.laws.what_is_learned_stays_within.Goals as goal

pub returns : goal.returns
returns c = learns_within
