use Rattle.qe_label_list.specs.Order.{IsInOrder}
use Rattle.qe_vectors_labels.proofs.clashes.list_of.Given as goal

abbrev pub invariant-loop-label : goal.invariant-loop-label
invariant-loop-label l = IsInOrder l.list
