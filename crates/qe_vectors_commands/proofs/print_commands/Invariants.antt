use Rattle.std.proofs.Common.{length}
use Rattle.qe_vectors_commands.proofs.print_commands.Given as goal

abbrev pub decreases-loop-line : goal.decreases-loop-line
decreases-loop-line l = length l.lines
