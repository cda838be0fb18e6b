use Rattle.std.proofs.Common.{◌≡◌, length}
use Rattle.qe_raw.specs.Lines.{numbered, past_blank}
use Rattle.qe_raw.proofs.lines.next_line.Given as goal

-- blank lines have no number, and are passed
abbrev pub invariant-loop-passed : goal.invariant-loop-passed
invariant-loop-passed l = (numbered l.lines ≡ numbered l.initial.lines) × (past_blank l.lines ≡ past_blank l.initial.lines)

abbrev pub decreases-loop-passed : goal.decreases-loop-passed
decreases-loop-passed l = length l.lines
