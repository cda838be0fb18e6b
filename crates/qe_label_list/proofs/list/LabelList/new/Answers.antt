use Rattle.qe_label_list.proofs.HeldLemmas.{held_none}
use Rattle.qe_label_list.proofs.list.LabelList.new.Goals as goal

pub invariant_of-result : goal.invariant_of-result
invariant_of-result c = held_none c.new.result.items c.new-2.result.items c.new-2.ensures.items
