use Rattle.std.proofs.Common.{◌≡◌, take}
use Rattle.std.specs.FinMap.{from_entries}
use Rattle.qe_census.specs.Events.{numbers_after}
use Rattle.qe_census.proofs.numbers.numbers_of.Given as goal

abbrev pub invariant-loop-event : goal.invariant-loop-event
invariant-loop-event l = from_entries l.numbers.entries ≡ numbers_after (take l.event-index l.events)
