use Rattle.std.proofs.Common.{length}
use Rattle.qe_vectors_rows.proofs.print_answers.Given as goal

abbrev pub decreases-loop-line : goal.decreases-loop-line
decreases-loop-line l = length l.lines
