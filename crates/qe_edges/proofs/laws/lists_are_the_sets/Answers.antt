use Rattle.qe_edges.proofs.StoredLemmas.{edges_are_listed}
use Rattle.qe_edges.proofs.TreeLemmas.{cover_is_listed}
use Rattle.qe_edges.proofs.laws.lists_are_the_sets.Goals as goal

pub returns-clause-edges : goal.returns-clause-edges
returns-clause-edges c = edges_are_listed

pub returns-clause-cover : goal.returns-clause-cover
returns-clause-cover c = cover_is_listed
