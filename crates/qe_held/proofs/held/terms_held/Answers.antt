use Rattle.std.proofs.Common.{All, subst, take_all}
use Rattle.std.proofs.lemmas.List.Elements.{All-more}
use Rattle.qe_held.specs.Held.{IsHeldTerm}
use Rattle.qe_held.proofs.held.terms_held.Goals as goal

pub loop-term-preserved : goal.loop-term-preserved
loop-term-preserved c =
    All-more IsHeldTerm c.args.terms.now c.loop-term.term-index c.term-item.result c.loop-term-test.true c.loop-term.invariant
    (subst IsHeldTerm c.term-item.is c.term_held.ensures)

pub returns : goal.returns
returns c = subst (All IsHeldTerm) (take_all c.loop-term.term-index c.args.terms.now c.loop-term-test.false) c.loop-term.invariant
