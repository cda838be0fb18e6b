-- What was read, and what the cells to come give, is all.
use Rattle.std.proofs.Common.{◌≡◌, drop}
use Rattle.qe_field.specs.Judgements.{ahead}
use Rattle.qe_opening.specs.Answer.{cells_of}
use Rattle.qe_opening.proofs.replies.read_cells.Given as goal

abbrev pub invariant-loop-field : goal.invariant-loop-field
invariant-loop-field l = ahead l.cells (cells_of l.keys (drop l.field-index l.stored)) ≡ cells_of l.keys l.stored
