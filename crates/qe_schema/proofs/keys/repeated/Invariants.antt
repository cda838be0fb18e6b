-- The keys to come are judged behind the earlier ones.
use Rattle.std.proofs.Common.{◌≡◌, [], take, drop}
use Rattle.qe_schema.specs.Keys.{roots_from}
use Rattle.qe_schema.proofs.keys.repeated.Given as goal

abbrev pub invariant-loop-second : goal.invariant-loop-second
invariant-loop-second l = roots_from l.numbers l.second (take l.second l.keys) (drop l.second l.keys) ≡ roots_from l.numbers 0 [] l.keys
