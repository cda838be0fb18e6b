use Rattle.std.proofs.Common.{arith}
use Rattle.qe_compact.proofs.upkeep.Upkeep.make_ready.Goals as goal

pub invariant_of-self : goal.invariant_of-self
invariant_of-self c = omega (arith, c.new.ensures.short)
