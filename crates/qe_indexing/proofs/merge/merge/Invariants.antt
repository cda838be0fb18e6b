use Rattle.std.proofs.Common.{◌≡◌, ◌≤◌, ◌++◌, ◌+◌, ◌-◌, length, drop}
use Rattle.qe_protocol.specs.Documents.{put_cells}
use Rattle.qe_indexing.proofs.merge.merge.Given as goal

abbrev pub invariant-loop-next : goal.invariant-loop-next
invariant-loop-next l = record {
  is : put_cells l.cells l.set ≡ l.all ++ put_cells (drop l.old l.cells) (drop l.new l.set);
  old : l.old ≤ length l.cells;
  new : l.new ≤ length l.set;
}

abbrev pub decreases-loop-next : goal.decreases-loop-next
decreases-loop-next l = (length l.cells - l.old) + (length l.set - l.new)
