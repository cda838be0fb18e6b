use Rattle.std.proofs.Common.{sym, arith}
use Rattle.std.proofs.lemmas.Bool.{le-leb}
use Rattle.qe_value.proofs.DepthLemmas.{depth-Doc, depth-Array, depth_leaf}
use Rattle.qe_value.proofs.bounds.+depth.Goals as goal

pub value_within-returns-in-Doc : goal.value_within-returns-in-Doc
value_within-returns-in-Doc t c = rw (c.in-Doc.is, depth-Doc c.in-Doc.document) c.is_within.ensures

pub value_within-returns-in-Array : goal.value_within-returns-in-Array
value_within-returns-in-Array t c = rw (c.in-Array.is, depth-Array c.in-Array.items) c.array_within.ensures

pub value_within-returns-in_default : goal.value_within-returns-in_default
value_within-returns-in_default t c = rw (depth_leaf c.args.value.now (λ fs. c.in_default.not-Doc fs) (λ vs. c.in_default.not-Array vs)) (sym (le-leb 0 c.args.room (omega arith)))
