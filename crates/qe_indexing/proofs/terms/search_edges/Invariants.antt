use Rattle.std.proofs.Common.{[], take}
use Rattle.qe_protocol.specs.Filters.{edge_searches}
use Rattle.qe_indexing.specs.Searches.{SearchesMade}
use Rattle.qe_indexing.proofs.terms.search_edges.Given as goal

abbrev pub invariant-loop-edge : goal.invariant-loop-edge
invariant-loop-edge l = SearchesMade l.esc.rows (edge_searches (take l.edge-index l.edges) l.greatest) l.fn.counts [] l.counts l.tags
