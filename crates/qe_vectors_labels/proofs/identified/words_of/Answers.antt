use Rattle.qe_rising.proofs.RisingLemmas.{counted_none}
use Rattle.qe_vectors_labels.proofs.identified.words_of.Goals as goal

pub loop-word-init : goal.loop-word-init
loop-word-init c = counted_none 2 c.new-counted.result.items c.new-counted.ensures.items
