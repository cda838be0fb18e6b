use Rattle.std.specs.Prelude.{take, All}
use Rattle.qe_held.specs.Held.{IsHeldEdge}
use Rattle.qe_held.proofs.held.edges_held.Given as goal

-- the edges that were read
abbrev pub invariant-loop-edge : goal.invariant-loop-edge
invariant-loop-edge l = All IsHeldEdge (take l.edge-index l.edges)
