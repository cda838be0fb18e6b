use Rattle.std.proofs.Common.{◌≡◌, ◌≤◌, ◌+◌, ◌*◌, ◌++◌, map, take, drop}
use Rattle.qe_encodes.specs.Draws.{cells_draws}
use Rattle.qe_encodes.specs.Sending.{cells_sent, stream_of}
use Rattle.qe_sending.proofs.sender.cells_made.Given as goal

abbrev pub invariant-loop-cell : goal.invariant-loop-cell
invariant-loop-cell l = record {
  so_far : l.made ++ cells_sent l.sender (record { number = l.number; contentions = l.contentions }) (drop l.cell-index l.cells) l.draws.place
      ≡ cells_sent l.sender (record { number = l.number; contentions = l.contentions }) l.cells 0;
  stream : l.draws.stream ≡ stream_of l.sender l.number;
  words : l.draws.place + cells_draws l.sender.under.schema (drop l.cell-index l.cells) ≡ cells_draws l.sender.under.schema l.cells;
  small : l.draws.place ≤ 270 * l.cell-index;
  fields : map (λ c. c.0) l.made ≡ map (λ cell. cell.field) (take l.cell-index l.cells);
}
