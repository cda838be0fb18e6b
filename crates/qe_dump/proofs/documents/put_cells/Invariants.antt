use Rattle.std.proofs.Common.{◌≡◌, ◌++◌, take, flat_map}
use Rattle.qe_dump.specs.Dump.{cell_line}
use Rattle.qe_dump.proofs.documents.put_cells.Given as goal

abbrev pub invariant-loop-number : goal.invariant-loop-number
invariant-loop-number l = l.out ≡ l.fn.out ++ flat_map (cell_line l.fields) (take l.number-index l.cells)
