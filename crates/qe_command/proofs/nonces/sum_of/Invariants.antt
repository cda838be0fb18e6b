use Rattle.std.proofs.Common.{◌≡◌, ◌+◌, ◌≤◌, ◌-◌, ◌^◌, drop}
use Rattle.qe_command.specs.Nonces.{at_most_64_bits, cells_nonces}
use Rattle.qe_command.proofs.nonces.sum_of.Given as goal

abbrev pub invariant-loop-cell : goal.invariant-loop-cell
invariant-loop-cell l = record {
  so_far : at_most_64_bits (l.sum + cells_nonces (drop l.cell-index l.cells)) ≡ at_most_64_bits (cells_nonces l.cells);
  within : l.sum ≤ 2 ^ 64 - 1;
}
