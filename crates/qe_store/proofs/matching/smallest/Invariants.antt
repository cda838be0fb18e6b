use Rattle.std.proofs.Common.{◌<◌, length}
use Rattle.qe_store.proofs.matching.smallest.Given as goal

abbrev pub invariant-loop-next : goal.invariant-loop-next
invariant-loop-next l = l.at < length l.terms
