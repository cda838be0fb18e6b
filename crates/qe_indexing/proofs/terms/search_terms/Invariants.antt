use Rattle.std.proofs.Common.{take}
use Rattle.qe_indexing.specs.Searches.{TermsMade}
use Rattle.qe_indexing.proofs.terms.search_terms.Given as goal

abbrev pub invariant-loop-term : goal.invariant-loop-term
invariant-loop-term l = TermsMade l.esc.rows (take l.term-index l.terms) l.fn.counts l.counts l.sets
