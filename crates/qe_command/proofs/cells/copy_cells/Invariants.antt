use Rattle.std.proofs.Common.{◌≡◌, take}
use Rattle.qe_command.proofs.cells.copy_cells.Given as goal

abbrev pub invariant-loop-field : goal.invariant-loop-field
invariant-loop-field l = l.others.items ≡ take l.field-index l.cells
