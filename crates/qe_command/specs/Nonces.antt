-- How many nonces the server takes for a command: IVs of 16 bytes.
use Rattle.std.specs.Prelude.{ℕ, ◌+◌, ◌-◌, ◌*◌, ◌^◌, min, List, [], ◌∷◌, length}
use Rattle.qe_command.specs.declared.cells.SentCell.{SentCell}
use Rattle.qe_command.specs.declared.cells.SentCell.TheVariants as cell
use Rattle.qe_command.specs.declared.command.Command.{Command}
use Rattle.qe_command.specs.declared.command.Command.TheVariants as c
use Rattle.qe_command.specs.Items.{items_of}

-- for an encrypted value one for its server-encrypted value, and for each item two for its block
abbrev pub cell_nonces : SentCell → ℕ
cell_nonces (cell.Plain value) = 0
cell_nonces (cell.Payload payload) = 1 + 2 * length (items_of payload)

abbrev pub cells_nonces : List (ℕ × SentCell) → ℕ
cells_nonces [] = 0
cells_nonces (sent ∷ cells) = cell_nonces sent.1 + cells_nonces cells

-- for a step one for each unit
abbrev pub nonces_of : Command → ℕ
nonces_of (c.Insert id cells) = cells_nonces cells
nonces_of (c.Update filter set) = cells_nonces set
nonces_of (c.Step job limit) = limit
nonces_of _ = 0

abbrev pub at_most_64_bits : ℕ → ℕ
at_most_64_bits number = min number (2 ^ 64 - 1)
