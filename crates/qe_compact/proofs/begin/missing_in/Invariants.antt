use Rattle.std.proofs.Common.{◌≡◌, drop}
use Rattle.qe_protocol.specs.Jobs.{first_missing}
use Rattle.qe_compact.proofs.begin.missing_in.Given as goal

abbrev pub invariant-loop-row : goal.invariant-loop-row
invariant-loop-row l = first_missing l.tokens (drop l.row-index l.rows) ≡ first_missing l.tokens l.rows
