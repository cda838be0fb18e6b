use Rattle.std.proofs.Common.{◌∷◌, ◌++◌, [], sym, subst, ap, take, ◌∙◌}
use Rattle.std.proofs.lemmas.List.{take_more}
use Rattle.qe_indexing.specs.Searches.{TermsMade}
use Rattle.qe_indexing.proofs.SearchLemmas.{terms_begin, terms_more}
use Rattle.qe_indexing.proofs.terms.search_terms.Goals as goal

pub loop-term-init : goal.loop-term-init
loop-term-init c = terms_begin c.args.esc.now.rows c.args.counts.now c.new-sets.result c.new-sets.ensures

pub loop-term-preserved : goal.loop-term-preserved
loop-term-preserved c =
    let i = c.loop-term.term-index in
    let terms = c.args.terms.now in
    let one = c.term-item.result in
    let more = take_more terms i one c.loop-term-test.true ∙ ap (λ term. take i terms ++ term ∷ []) (sym c.term-item.is) in
    subst (λ front. TermsMade c.args.esc.now.rows front c.args.counts.now c.search_term.new.counts c.push.new.self) (sym more)
    (terms_more c.args.esc.now.rows c.args.counts.now (take i terms) one _ _ _ _ _ c.loop-term.invariant c.in_ok-set.ensures c.in_ok-push.ensures.ok)
