-- The names to come are searched as all are.
use Rattle.std.proofs.Common.{◌≡◌, drop}
use Rattle.qe_script.specs.Callers.{is_among}
use Rattle.qe_script.proofs.callers.is_among.Given as goal

abbrev pub invariant-loop-other : goal.invariant-loop-other
invariant-loop-other l = is_among l.name (drop l.other-index l.earlier) ≡ is_among l.name l.earlier
