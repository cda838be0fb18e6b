use Rattle.qe_labels.proofs.ListedLemmas.{lists_labels}
use Rattle.qe_labels.proofs.laws.labels_are_listed.Goals as goal

pub returns : goal.returns
returns c = lists_labels
