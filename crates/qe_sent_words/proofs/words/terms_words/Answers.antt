use Rattle.std.proofs.Common.{◌≤◌, length, min, arith}
use Rattle.qe_sent_words.proofs.LoopLemmas.{terms_end}
use Rattle.qe_sent_words.proofs.words.terms_words.Goals as goal

pub returns : goal.returns
returns c =
    let past : min (length c.args.terms.now) (length c.args.sents.now) ≤ c.loop-i.i = omega arith in
    terms_end c.args.keyring.now.schema c.args.terms.now c.args.sents.now c.loop-i.i c.loop-i.words _ past c.loop-i.invariant
