use Rattle.std.proofs.Common.{◌≡◌, drop}
use Rattle.qe_protocol.specs.Contention.{filter_below}
use Rattle.qe_refusal.proofs.contention.filter_below.Given as goal

abbrev pub invariant-loop-term : goal.invariant-loop-term
invariant-loop-term l = filter_below l.current (drop l.term-index l.terms) ≡ filter_below l.current l.terms
