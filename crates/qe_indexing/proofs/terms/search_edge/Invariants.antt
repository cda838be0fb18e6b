use Rattle.qe_protocol.specs.Filters.{factor_searches}
use Rattle.qe_indexing.specs.Searches.{SearchesMade}
use Rattle.qe_indexing.proofs.terms.search_edge.Given as goal

abbrev pub invariant-loop-factor : goal.invariant-loop-factor
invariant-loop-factor l = SearchesMade l.esc.rows (factor_searches l.edge 0 l.factor) l.fn.counts l.fn.tags l.counts l.tags
