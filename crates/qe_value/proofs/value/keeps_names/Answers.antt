use Rattle.std.proofs.Common.{◌∙◌}
use Rattle.qe_value.proofs.DistinctLemmas.{distinct_in-Doc, distinct_in-Array, distinct_leaf}
use Rattle.qe_value.proofs.value.keeps_names.Goals as goal

pub returns-in-Doc : goal.returns-in-Doc
returns-in-Doc c = rw c.in-Doc.is (distinct_in-Doc c.in-Doc.document ∙ c.len-count.ensures.each_level)

pub returns-in-Array : goal.returns-in-Array
returns-in-Array c = rw c.in-Array.is (distinct_in-Array c.in-Array.items ∙ c.keeps_names.ensures)

pub returns-in_default : goal.returns-in_default
returns-in_default c = distinct_leaf c.args.value.now (λ fs. c.in_default.not-Doc fs) (λ vs. c.in_default.not-Array vs)
