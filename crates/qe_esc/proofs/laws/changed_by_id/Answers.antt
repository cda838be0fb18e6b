use Rattle.qe_esc.proofs.ChangesLemmas.{get-changed}
use Rattle.qe_esc.proofs.laws.changed_by_id.Goals as goal

pub returns : goal.returns
returns c = get-changed
