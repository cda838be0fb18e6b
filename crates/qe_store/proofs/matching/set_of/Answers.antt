use Rattle.std.proofs.Common.{◌∙◌}
use Rattle.qe_store.proofs.MatchLemmas.{has_one_more}
use Rattle.qe_store.proofs.matching.set_of.Goals as goal

pub loop-tag-preserved : goal.loop-tag-preserved
loop-tag-preserved c = λ q. c.in_ok-insert.ensures.updates.0 q ∙ has_one_more c.args.tags.now c.loop-tag.tag-index _ q _ c.loop-tag-test.true (c.loop-tag.invariant q)
