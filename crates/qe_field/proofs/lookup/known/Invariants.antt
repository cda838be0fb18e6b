-- The fields from the counter on are searched as all were.
use Rattle.std.proofs.Common.{◌≡◌, drop}
use Rattle.qe_field.specs.Lookup.{known_from}
use Rattle.qe_field.proofs.lookup.known.Given as goal

abbrev pub invariant-loop-i : goal.invariant-loop-i
invariant-loop-i l = known_from 0 l.path l.fields ≡ known_from l.i l.path (drop l.i l.fields)
