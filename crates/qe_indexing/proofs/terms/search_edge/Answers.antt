use Rattle.std.proofs.Common.{◌∷◌, ◌++◌, [], ℕ, sym, subst, ap, ◌∙◌, arith}
use Rattle.qe_protocol.specs.Filters.{factor_searches, search_of}
use Rattle.qe_indexing.specs.Searches.{SearchesMade}
use Rattle.qe_indexing.proofs.SearchLemmas.{factor_searches-more, searches_join}
use Rattle.qe_indexing.proofs.terms.search_edge.Goals as goal

pub loop-factor-preserved : goal.loop-factor-preserved
loop-factor-preserved c =
    let factor = c.loop-factor.factor in
    let more = factor_searches-more c.args.edge.now 0 factor ∙ ap (λ (n : ℕ). factor_searches c.args.edge.now 0 factor ++ search_of c.args.edge.now n ∷ []) (omega arith) in
    subst (λ searches. SearchesMade c.args.esc.now.rows searches c.args.counts.now c.args.tags.now c.search.new.counts c.search.new.tags) (sym more)
    (searches_join c.args.esc.now.rows c.args.counts.now c.args.tags.now _ _ _ _ _ _ c.loop-factor.invariant c.in_ok-search.ensures)
