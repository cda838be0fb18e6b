use Rattle.std.proofs.Common.{arith}
use Rattle.qe_indexing.proofs.MergeLemmas.{first_old, first_both, first_new}
use Rattle.qe_indexing.proofs.merge.first_of.Goals as goal

pub returns-then-old-new : goal.returns-then-old-new
returns-then-old-new c = λ olds news. first_old c.args.old.now c.args.new.now olds news c.if-old-new.true

pub returns-then-old-new-2 : goal.returns-then-old-new-2
returns-then-old-new-2 c = λ olds news. first_both c.args.old.now c.args.new.now olds news c.if-old-new-2.true

pub returns : goal.returns
returns c = λ olds news. first_new c.args.old.now c.args.new.now olds news (omega arith)
