use Rattle.std.specs.Prelude.{take, All}
use Rattle.qe_held.specs.Held.{IsHeldFindEdge}
use Rattle.qe_held.proofs.held.find_edges_held.Given as goal

-- the edges that were read
abbrev pub invariant-loop-edge : goal.invariant-loop-edge
invariant-loop-edge l = All IsHeldFindEdge (take l.edge-index l.edges)
