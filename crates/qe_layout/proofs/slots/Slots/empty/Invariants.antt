use Rattle.std.proofs.Common.{◌≡◌, None, replicate}
use Rattle.qe_layout.proofs.slots.Slots.empty.Given as goal

abbrev pub invariant-loop : goal.invariant-loop
invariant-loop g l = l.items.items ≡ replicate l.counter None
