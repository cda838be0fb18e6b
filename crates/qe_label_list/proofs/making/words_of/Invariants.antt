use Rattle.std.proofs.Common.{◌≡◌, map}
use Rattle.qe_label_list.proofs.making.words_of.Given as goal

abbrev pub invariant-loop-word : goal.invariant-loop-word
invariant-loop-word l = l.words.items ≡ map (λ one. one.0) l.yielded
