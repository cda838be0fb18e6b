use Rattle.qe_rising.specs.Rising.{AreCounted}
use Rattle.qe_bench_labels.proofs.words.words.Given as goal

abbrev pub invariant-loop-number : goal.invariant-loop-number
invariant-loop-number l = AreCounted 1 l.words.items
