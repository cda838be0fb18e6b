use Rattle.std.proofs.Common.{◌≡◌, ◌++◌, take}
use Rattle.qe_labels.specs.Tags.{words_under}
use Rattle.qe_sent_words.proofs.push.push_under.Given as goal

abbrev pub invariant-loop-item : goal.invariant-loop-item
invariant-loop-item l = l.words ≡ l.initial.words ++ words_under l.field l.factor (take l.item-index l.items)
