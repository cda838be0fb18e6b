use Rattle.std.proofs.Common.{All, subst, take_all}
use Rattle.std.proofs.lemmas.List.Elements.{All-more}
use Rattle.qe_held.specs.Held.{IsHeldFindEdge}
use Rattle.qe_held.proofs.held.find_edges_held.Goals as goal

pub loop-edge-preserved : goal.loop-edge-preserved
loop-edge-preserved c =
    All-more IsHeldFindEdge c.args.edges.now c.loop-edge.edge-index _ c.loop-edge-test.true c.loop-edge.invariant
    c.find_edge_held.ensures

pub returns : goal.returns
returns c = subst (All IsHeldFindEdge) (take_all c.loop-edge.edge-index c.args.edges.now c.loop-edge-test.false) c.loop-edge.invariant
