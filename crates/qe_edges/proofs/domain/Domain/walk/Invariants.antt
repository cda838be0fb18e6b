use Rattle.std.proofs.Common.{◌-◌, length}
use Rattle.qe_edges.proofs.TallyLemmas.{IsCounted}
use Rattle.qe_edges.proofs.WalkLemmas.{IsWalked}
use Rattle.qe_edges.proofs.domain.Domain.walk.Given as goal

abbrev pub invariant-loop-at : goal.invariant-loop-at
invariant-loop-at l = IsWalked l.self l.first l.end l.at l.cover × IsCounted l.self l.at l.end (length l.cover)

abbrev pub decreases-loop-at : goal.decreases-loop-at
decreases-loop-at l = l.end - l.at
