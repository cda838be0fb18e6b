use Rattle.qe_standing.proofs.CauseLemmas.{refusals_have_their_cause}
use Rattle.qe_standing.proofs.laws.refusals_have_their_cause.Goals as goal

pub returns : goal.returns
returns c = refusals_have_their_cause
