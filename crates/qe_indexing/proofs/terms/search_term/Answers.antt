use Rattle.std.proofs.Common.{◌≡◌, ℕ, [], ◌∷◌, sym, subst, nat_abs, rules}
use Rattle.qe_store.specs.declared.stored.TermSet.TheVariants as set
use Rattle.qe_indexing.specs.Searches.{SearchesMade, TermMade}
use Rattle.qe_protocol.specs.Filters.{edge_searches}
use Rattle.qe_indexing.proofs.SearchLemmas.{equal_term, range_term}
use Rattle.qe_indexing.proofs.terms.search_term.Goals as goal

pub returns-in_ok-search_edges-in-Equal : goal.returns-in_ok-search_edges-in-Equal
returns-in_ok-search_edges-in-Equal c =
    let payload = c.in-Equal.payload in
    let new = c.search_edges.new.counts in
    let tags = c.in_ok-search_edges-in-Equal.field-0 in
    let same : c.unsigned_abs.result ≡ nat_abs payload.cm = search rules in
    subst (λ term. TermMade c.args.esc.now.rows term c.args.counts.now new (set.Tags tags)) (sym c.in-Equal.is)
    (equal_term c.args.esc.now.rows c.args.counts.now new c.in-Equal.field payload tags
    (subst (λ (n : ℕ). SearchesMade c.args.esc.now.rows (edge_searches (record { d = payload.d; s = payload.s; l = payload.l } ∷ []) n) c.args.counts.now [] new tags) same c.in_ok-search_edges-in-Equal.ensures))

pub returns-in_ok-search_edges-in-Range : goal.returns-in_ok-search_edges-in-Range
returns-in_ok-search_edges-in-Range c =
    let payload = c.in-Range.payload in
    let new = c.search_edges-in-Range.new.counts in
    let tags = c.in_ok-search_edges-in-Range.field-0 in
    let same : c.unsigned_abs-in-Range.result ≡ nat_abs payload.cm = search rules in
    subst (λ term. TermMade c.args.esc.now.rows term c.args.counts.now new (set.Tags tags)) (sym c.in-Range.is)
    (range_term c.args.esc.now.rows c.args.counts.now new c.in-Range.field payload tags
    (subst (λ edges. SearchesMade c.args.esc.now.rows (edge_searches edges (nat_abs payload.cm)) c.args.counts.now [] new tags) c.slice.ensures
    (subst (λ (n : ℕ). SearchesMade c.args.esc.now.rows (edge_searches c.slice.result.now n) c.args.counts.now [] new tags) same c.in_ok-search_edges-in-Range.ensures)))
