use Rattle.qe_relation.proofs.LawLemmas.{kept_by_indexing}
use Rattle.qe_relation.proofs.laws.indexing_keeps_the_relation.Goals as goal

pub returns : goal.returns
returns c = kept_by_indexing
