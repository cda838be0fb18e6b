use Rattle.qe_rising.proofs.RisingLemmas.{counted_none}
use Rattle.qe_bench_labels.proofs.words.words.Goals as goal

pub loop-number-init : goal.loop-number-init
loop-number-init c = counted_none 1 c.new-words.result.items c.new-words.ensures.items
