-- Cells whose numbers are below one.
use Rattle.std.specs.Prelude.{ℕ, ◌<◌, List, [], ◌∷◌}
use Rattle.qe_command.specs.declared.cells.SentCell.{SentCell}

abbrev pub AreBelow : ℕ → List (ℕ × SentCell) → Type 0
AreBelow number [] = Unit {0}
AreBelow number (cell ∷ cells) = (cell.0 < number) × AreBelow number cells
