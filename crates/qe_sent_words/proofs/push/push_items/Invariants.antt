use Rattle.std.proofs.Common.{◌≡◌, ◌++◌, drop}
use Rattle.qe_encodes.specs.Words.{item_words}
use Rattle.qe_sent_words.proofs.push.push_items.Given as goal

abbrev pub invariant-loop-item : goal.invariant-loop-item
invariant-loop-item l = l.words ++ item_words l.field (drop l.item-index l.items) l.greatest ≡ l.initial.words ++ item_words l.field l.items l.greatest
