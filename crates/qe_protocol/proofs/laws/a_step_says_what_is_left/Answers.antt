use Rattle.qe_protocol.proofs.StepLemmas.{next-left}
use Rattle.qe_protocol.proofs.laws.a_step_says_what_is_left.Goals as goal

pub returns : goal.returns
returns c = next-left
