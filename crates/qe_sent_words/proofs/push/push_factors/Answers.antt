use Rattle.qe_sent_words.proofs.LoopLemmas.{factors_next}
use Rattle.qe_sent_words.proofs.push.push_factors.Goals as goal

pub loop-factor-preserved : goal.loop-factor-preserved
loop-factor-preserved c =
    factors_next c.args.field c.args.item.now c.args.count c.loop-factor.factor c.loop-factor.words c.push_word.new.words _ c.loop-factor-test.true
    c.in_ok-push_word.ensures c.loop-factor.invariant
