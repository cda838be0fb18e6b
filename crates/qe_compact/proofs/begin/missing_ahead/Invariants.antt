use Rattle.std.proofs.Common.{◌≡◌, drop}
use Rattle.qe_protocol.specs.Jobs.{first_missing}
use Rattle.qe_compact.proofs.begin.missing_ahead.Given as goal

abbrev pub invariant-loop-place : goal.invariant-loop-place
invariant-loop-place l = first_missing l.tokens (drop l.place l.ecoc.rows) ≡ first_missing l.tokens l.ecoc.rows
