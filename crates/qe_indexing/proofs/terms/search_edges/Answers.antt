use Rattle.std.proofs.Common.{[], sym, subst}
use Rattle.qe_indexing.specs.Searches.{SearchesMade}
use Rattle.qe_indexing.proofs.SearchLemmas.{edge_searches-more, searches_join}
use Rattle.qe_indexing.proofs.terms.search_edges.Goals as goal

pub loop-edge-preserved : goal.loop-edge-preserved
loop-edge-preserved c =
    subst (λ searches. SearchesMade c.args.esc.now.rows searches c.args.counts.now [] c.search_edge.new.counts c.search_edge.new.tags)
    (sym (edge_searches-more c.args.edges.now c.loop-edge.edge-index _ c.args.greatest c.loop-edge-test.true))
    (searches_join c.args.esc.now.rows c.args.counts.now [] _ _ _ _ _ _ c.loop-edge.invariant c.in_ok-search_edge.ensures)
