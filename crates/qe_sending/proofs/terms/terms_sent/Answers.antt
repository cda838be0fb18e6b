use Rattle.qe_sending.proofs.TermLemmas.{terms_end}
use Rattle.qe_sending.proofs.terms.terms_sent.Goals as goal

pub returns : goal.returns
returns c =
    terms_end c.args.keyring.now c.args.contentions.now c.args.terms.now c.loop-place.place c.loop-place.filter _ c.loop-place-test.false
    c.loop-place.invariant
