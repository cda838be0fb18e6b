-- The pairs listed, and those of the places to come, are all pairs.
use Rattle.std.proofs.Common.{◌≡◌, ◌++◌, drop}
use Rattle.qe_resolve.specs.Pairs.{pair}
use Rattle.qe_resolve.specs.Slots.{listed_from}
use Rattle.qe_resolve.proofs.pairs.listed.Given as goal

abbrev pub invariant-loop-i : goal.invariant-loop-i
invariant-loop-i l = l.pairs ++ listed_from pair l.i (drop l.i l.slots) ≡ listed_from pair 0 l.slots
