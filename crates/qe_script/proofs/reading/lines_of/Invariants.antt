-- The commands read, and those of the lines left, are all commands.
use Rattle.std.proofs.Common.{◌≡◌, length}
use Rattle.qe_schema.specs.Judgements.{ahead}
use Rattle.qe_raw.specs.Lines.{numbered}
use Rattle.qe_script.specs.Script.{lines_of}
use Rattle.qe_script.proofs.reading.lines_of.Given as goal

abbrev pub invariant-loop-number : goal.invariant-loop-number
invariant-loop-number l = ahead l.read (lines_of l.header (numbered l.lines)) ≡ lines_of l.header (numbered l.initial.lines)

abbrev pub decreases-loop-number : goal.decreases-loop-number
decreases-loop-number l = length (numbered l.lines)
