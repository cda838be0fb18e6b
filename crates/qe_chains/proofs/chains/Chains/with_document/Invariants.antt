use Rattle.std.proofs.Common.{◌≡◌, ◌++◌, length, map}
use Rattle.qe_chains.proofs.chains.Chains.with_document.Given as goal

abbrev pub invariant-loop-link : goal.invariant-loop-link
invariant-loop-link l = l.list ++ map (λ p. p.0) l.links ≡ map (λ p. p.0) l.initial.links

abbrev pub decreases-loop-link : goal.decreases-loop-link
decreases-loop-link l = length l.links
