-- The callers from the counter on are searched as all were.
use Rattle.std.proofs.Common.{◌≡◌, drop}
use Rattle.qe_raw.specs.Callers.{place_from}
use Rattle.qe_raw.proofs.caller.number_of.Given as goal

abbrev pub invariant-loop-i : goal.invariant-loop-i
invariant-loop-i l = place_from 0 l.name l.names ≡ place_from l.i l.name (drop l.i l.names)
