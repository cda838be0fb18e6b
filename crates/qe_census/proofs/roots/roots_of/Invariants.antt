use Rattle.qe_census.proofs.RootLemmas.{Walks}
use Rattle.qe_census.proofs.roots.roots_of.Given as goal

abbrev pub invariant-loop-field : goal.invariant-loop-field
invariant-loop-field l = Walks l.keys l.fields l.roots.items l.place l.field-index
