use Rattle.qe_standing.proofs.CellsLemmas.{sent_decodes}
use Rattle.qe_standing.proofs.laws.what_was_sealed_decodes.Goals as goal

pub returns : goal.returns
returns c = sent_decodes
