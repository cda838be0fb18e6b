use Rattle.std.proofs.lemmas.Int.{ints}
use Rattle.std.proofs.Common.{arith}
use Rattle.qe_fits.proofs.payloads.least_of.Goals as goal

pub returns-clause-within : goal.returns-clause-within
returns-clause-within c = let low = c.bits-bits.ensures.domain.ordered in let is = c.min.ensures in (grind (arith, ints), grind (arith, ints))
