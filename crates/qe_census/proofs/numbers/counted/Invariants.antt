use Rattle.std.proofs.Common.{◌≡◌, ◌++◌}
use Rattle.qe_census.proofs.numbers.counted.Given as goal

abbrev pub invariant-loop-key : goal.invariant-loop-key
invariant-loop-key l = l.words.items ++ l.key-iterator ≡ l.initial.key-iterator
