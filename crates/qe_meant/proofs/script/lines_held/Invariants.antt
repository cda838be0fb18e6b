-- The lines so far are held.
use Rattle.std.proofs.Common.{take}
use Rattle.qe_meant.specs.Held.{AreHeldLines}
use Rattle.qe_meant.proofs.script.lines_held.Given as goal

abbrev pub invariant-loop-line : goal.invariant-loop-line
invariant-loop-line l = AreHeldLines (take l.line-index l.lines)
