-- The fields from the counter on are searched as all were.
use Rattle.std.proofs.Common.{◌≡◌, drop}
use Rattle.qe_field.specs.Reading.{key_from}
use Rattle.qe_field.proofs.reading.key_from.Given as goal

abbrev pub invariant-loop-i : goal.invariant-loop-i
invariant-loop-i l = key_from 0 l.id l.fields ≡ key_from l.i l.id (drop l.i l.fields)
