-- The terms so far are held.
use Rattle.std.proofs.Common.{All, take}
use Rattle.qe_meant.specs.Held.{IsHeldTerm}
use Rattle.qe_meant.proofs.commands.terms_held.Given as goal

abbrev pub invariant-loop-term : goal.invariant-loop-term
invariant-loop-term l = All IsHeldTerm (take l.term-index l.terms)
