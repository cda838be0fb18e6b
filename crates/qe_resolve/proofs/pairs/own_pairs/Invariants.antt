-- The pairs listed, and those of the numbers to come, are all pairs.
use Rattle.std.proofs.Common.{◌≡◌, ◌++◌, drop, map}
use Rattle.qe_resolve.specs.Pairs.{own_pair}
use Rattle.qe_resolve.proofs.pairs.own_pairs.Given as goal

abbrev pub invariant-loop-number : goal.invariant-loop-number
invariant-loop-number l = l.own ++ map own_pair (drop l.number-index l.number-items) ≡ map own_pair l.number-items
