use Rattle.std.proofs.Common.{◌<◌, length, sym, ap, ◌∙◌, arith}
use Rattle.qe_census.proofs.EntryLemmas.{numbers_in}
use Rattle.qe_census.proofs.EventLemmas.{numbers_next, numbers_none}
use Rattle.qe_census.proofs.numbers.numbers_of.Goals as goal

pub loop-event-init : goal.loop-event-init
loop-event-init c = ap numbers_in c.new-numbers.ensures.empty ∙ sym numbers_none

pub loop-event-preserved : goal.loop-event-preserved
loop-event-preserved c =
    let within : c.loop-event.event-index < length c.args.events.now = omega arith in
    numbers_next c.args.events.now c.loop-event.event-index c.event-item.result (numbers_in c.loop-event.numbers.entries) (numbers_in c.note.new.numbers.entries) within
    c.event-item.is c.loop-event.invariant c.in_ok-note.ensures
