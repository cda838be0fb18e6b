use Rattle.qe_command_document.proofs.DocumentLemmas.{command_laws}
use Rattle.qe_command_document.proofs.laws.command_documents_are_read.Goals as goal

pub returns : goal.returns
returns c = command_laws
