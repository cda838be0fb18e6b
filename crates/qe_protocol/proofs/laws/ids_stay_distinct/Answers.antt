use Rattle.qe_protocol.proofs.DocumentLemmas.{next-apart}
use Rattle.qe_protocol.proofs.laws.ids_stay_distinct.Goals as goal

pub returns : goal.returns
returns c = next-apart
