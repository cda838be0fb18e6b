use Rattle.qe_labels.proofs.ClashLemmas.{tests_clashes}
use Rattle.qe_labels.proofs.laws.clashes_are_tested.Goals as goal

pub returns : goal.returns
returns c = tests_clashes
