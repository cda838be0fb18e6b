use Rattle.std.proofs.Common.{◌≡◌, ◌++◌, List, ℕ, length}
use Rattle.qe_base.specs.Lines.{placed_lines}
use Rattle.qe_show.specs.Lines.{Shows, first_not_hex}
use Rattle.qe_show.proofs.lines.show.Given as goal

-- what shows the lines that are left shows all of them behind the text
abbrev pub invariant-loop-passed : goal.invariant-loop-passed
invariant-loop-passed l =
    ((rest : List ℕ) → Shows l.lines rest → Shows (placed_lines l.bytes) (l.text ++ rest))
    × (first_not_hex (placed_lines l.bytes) ≡ first_not_hex l.lines)

abbrev pub decreases-loop-passed : goal.decreases-loop-passed
decreases-loop-passed l = length l.lines
