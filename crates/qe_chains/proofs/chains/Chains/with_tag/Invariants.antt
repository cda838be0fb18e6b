use Rattle.std.proofs.Common.{◌≡◌, ◌++◌, length, map}
use Rattle.qe_chains.proofs.chains.Chains.with_tag.Given as goal

abbrev pub invariant-loop-doc : goal.invariant-loop-doc
invariant-loop-doc l = l.list ++ map (λ p. p.1) l.links ≡ map (λ p. p.1) l.initial.links

abbrev pub decreases-loop-doc : goal.decreases-loop-doc
decreases-loop-doc l = length l.links
