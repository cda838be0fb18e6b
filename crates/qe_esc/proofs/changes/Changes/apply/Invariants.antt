use Rattle.std.proofs.Common.{◌≡◌, ◌+◌, ◌≤◌, length}
use Rattle.qe_esc.proofs.ChangesLemmas.{forward}
use Rattle.qe_esc.proofs.changes.Changes.apply.Given as goal

abbrev pub invariant-loop-id : goal.invariant-loop-id
invariant-loop-id l = record {
  rows : forward l.esc.rows l.id-iterator ≡ forward l.initial.esc.rows l.initial.id-iterator;
  room : length l.id-iterator ≤ l.esc.spare;
  left : l.initial.esc.spare + length l.id-iterator ≤ l.esc.spare + length l.initial.id-iterator;
}
