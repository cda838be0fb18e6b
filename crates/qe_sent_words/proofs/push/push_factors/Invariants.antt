use Rattle.std.proofs.Common.{◌≡◌, ◌-◌, ◌++◌}
use Rattle.qe_encodes.specs.Words.{factor_words}
use Rattle.qe_sent_words.proofs.push.push_factors.Given as goal

abbrev pub invariant-loop-factor : goal.invariant-loop-factor
invariant-loop-factor l =
    l.words ++ factor_words l.field l.item l.factor (l.count - l.factor) ≡ l.initial.words ++ factor_words l.field l.item 0 l.count
