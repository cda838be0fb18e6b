use Rattle.std.proofs.Common.{◌≡◌, ◌++◌, ◌+◌, ◌≤◌, length, take}
use Rattle.qe_indexing.proofs.plan.add_all.Given as goal

abbrev pub invariant-loop-entry : goal.invariant-loop-entry
invariant-loop-entry l = record {
  rows : l.ecoc.rows ≡ l.fn.ecoc.rows ++ take l.entry-index l.entries;
  room : length l.entries ≤ l.ecoc.spare + l.entry-index;
}
