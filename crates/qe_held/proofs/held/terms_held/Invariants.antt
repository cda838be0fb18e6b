use Rattle.std.specs.Prelude.{take, All}
use Rattle.qe_held.specs.Held.{IsHeldTerm}
use Rattle.qe_held.proofs.held.terms_held.Given as goal

-- the terms that were read
abbrev pub invariant-loop-term : goal.invariant-loop-term
invariant-loop-term l = All IsHeldTerm (take l.term-index l.terms)
