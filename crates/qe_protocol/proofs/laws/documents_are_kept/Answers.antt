use Rattle.qe_protocol.proofs.DocumentLemmas.{next-keeps}
use Rattle.qe_protocol.proofs.laws.documents_are_kept.Goals as goal

pub returns : goal.returns
returns c = next-keeps
