use Rattle.qe_protocol.proofs.DocumentLemmas.{next-changed}
use Rattle.qe_protocol.proofs.laws.one_document_changes_at_most.Goals as goal

pub returns : goal.returns
returns c = next-changed
