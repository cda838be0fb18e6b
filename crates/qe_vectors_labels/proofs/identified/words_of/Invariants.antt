use Rattle.qe_rising.specs.Rising.{AreCounted}
use Rattle.qe_vectors_labels.proofs.identified.words_of.Given as goal

abbrev pub invariant-loop-word : goal.invariant-loop-word
invariant-loop-word l = AreCounted 2 l.counted.items
