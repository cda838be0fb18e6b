use Rattle.std.proofs.Common.{◌≡◌, ◌+◌, ◌≤◌, length, map, take, drop}
use Rattle.qe_command.specs.Nonces.{cells_nonces}
use Rattle.qe_indexing.specs.Plans.{index_in}
use Rattle.qe_indexing.specs.Cells.{CellsGoing}
use Rattle.qe_indexing.proofs.cells.index_all.Given as goal

abbrev pub invariant-loop-field : goal.invariant-loop-field
invariant-loop-field l = record {
  so_far : CellsGoing (index_in l.standing) (take l.field-index l.cells) l.nonces (drop l.place l.nonces) l.fn.plan l.plan l.made;
  enough : l.place + cells_nonces (drop l.field-index l.cells) ≤ length l.nonces;
  fields : map (λ c. c.0) l.made ≡ map (λ c. c.0) (take l.field-index l.cells);
}
