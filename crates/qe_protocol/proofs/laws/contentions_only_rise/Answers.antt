use Rattle.qe_protocol.proofs.ContentionLemmas.{next-rises}
use Rattle.qe_protocol.proofs.laws.contentions_only_rise.Goals as goal

pub returns : goal.returns
returns c = next-rises
