use Rattle.std.proofs.Common.{◌≡◌, ◌++◌}
use Rattle.qe_protocol.specs.Units.{anchors_after}
use Rattle.qe_compact.proofs.rows.doom.Given as goal

abbrev pub invariant-loop-i : goal.invariant-loop-i
invariant-loop-i l = l.doomed ≡ l.fn.doomed ++ anchors_after l.search.token.0 l.search.found.null_apos l.i
