use Rattle.qe_standing.proofs.LearnLemmas.{answers_can_be_learned}
use Rattle.qe_standing.proofs.laws.what_is_answered_can_be_learned.Goals as goal

pub returns : goal.returns
returns c = answers_can_be_learned
