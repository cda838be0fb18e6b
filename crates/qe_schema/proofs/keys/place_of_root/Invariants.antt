-- The keys from the counter on are searched as all were.
use Rattle.std.proofs.Common.{◌≡◌, drop}
use Rattle.qe_schema.specs.Keys.{root_from}
use Rattle.qe_schema.proofs.keys.place_of_root.Given as goal

abbrev pub invariant-loop-i : goal.invariant-loop-i
invariant-loop-i l = root_from 0 l.key l.keys ≡ root_from l.i l.key (drop l.i l.keys)
