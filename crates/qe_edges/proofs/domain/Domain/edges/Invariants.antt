use Rattle.std.proofs.Common.{◌+◌, ◌-◌}
use Rattle.qe_edges.proofs.EdgeLemmas.{IsListed}
use Rattle.qe_edges.proofs.domain.Domain.edges.Given as goal

abbrev pub invariant-loop-level : goal.invariant-loop-level
invariant-loop-level l = IsListed l.self l.number l.level l.edges

abbrev pub decreases-loop-level : goal.decreases-loop-level
decreases-loop-level l = l.bits + 1 - l.level
