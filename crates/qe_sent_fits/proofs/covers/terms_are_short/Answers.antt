use Rattle.std.proofs.Common.{All, subst, take_all}
use Rattle.std.proofs.lemmas.List.Elements.{All-more}
use Rattle.qe_sent_fits.specs.Covers.{HasShortCover}
use Rattle.qe_sent_fits.proofs.covers.terms_are_short.Goals as goal

pub loop-term-preserved : goal.loop-term-preserved
loop-term-preserved c =
    All-more (HasShortCover c.args.fields.now) c.args.terms.now c.loop-term.term-index c.term-item.result c.loop-term-test.true c.loop-term.invariant
    (subst (HasShortCover c.args.fields.now) c.term-item.is c.in_ok-term_is_short.ensures)

pub returns : goal.returns
returns c = subst (All (HasShortCover c.args.fields.now)) (take_all c.loop-term.term-index c.args.terms.now c.loop-term-test.false) c.loop-term.invariant
