use Rattle.std.proofs.Common.{◌≡◌, ◌++◌, take}
use Rattle.qe_census.specs.Events.{events_of}
use Rattle.qe_census.proofs.census.push_words.Given as goal

abbrev pub invariant-loop-word : goal.invariant-loop-word
invariant-loop-word l = l.events.items ≡ l.initial.events.items ++ events_of l.indexed (take l.word-index l.words)
