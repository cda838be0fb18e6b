use Rattle.qe_rising.proofs.RisingLemmas.{labels_none}
use Rattle.qe_vectors_labels.proofs.clashes.list_of.Goals as goal

pub loop-label-init : goal.loop-label-init
loop-label-init c = labels_none c.new-list.result c.new-list.ensures
