use Rattle.std.proofs.Common.{◌-◌, ◌^◌}
use Rattle.qe_esc.specs.Identifiers.{row_after}
use Rattle.qe_esc.proofs.BoundaryLemmas.{Doubling, Halving}
use Rattle.qe_esc.proofs.boundary.hop.Given as goal

abbrev pub invariant-loop-high : goal.invariant-loop-high
invariant-loop-high g l = Doubling (row_after (g.V.RowView.rows l.rows) l.kind l.key l.start) l.fn.steps l.steps l.low l.high

abbrev pub decreases-loop-high : goal.decreases-loop-high
decreases-loop-high g l = 2 ^ 63 - l.high

abbrev pub invariant-loop-high-2 : goal.invariant-loop-high-2
invariant-loop-high-2 g l = Halving (row_after (g.V.RowView.rows l.rows) l.kind l.key l.start) l.fn.steps l.steps l.low l.high

abbrev pub decreases-loop-high-2 : goal.decreases-loop-high-2
decreases-loop-high-2 g l = l.high - l.low
