-- The cells listed, and those of the places to come, are all cells.
use Rattle.std.proofs.Common.{◌≡◌, ◌+◌, ◌++◌, length}
use Rattle.qe_resolve.specs.Cells.{cell}
use Rattle.qe_resolve.specs.Slots.{listed_from}
use Rattle.qe_resolve.proofs.cells.listed.Given as goal

abbrev pub invariant-loop-slot : goal.invariant-loop-slot
invariant-loop-slot l = record {
  steps : (goal.iterator-loop-slot).can_next l.slot-iterator;
  ends : (goal.iterator-loop-slot).is_finite l.slot-iterator;
  told : l.cells ++ listed_from cell l.field l.slot-iterator.rest.items ≡ listed_from cell 0 l.fn.slots.items;
  place : l.field + length l.slot-iterator.rest.items ≡ length l.fn.slots.items;
}
