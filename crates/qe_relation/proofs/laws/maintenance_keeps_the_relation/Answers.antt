use Rattle.qe_relation.proofs.LawLemmas.{maintenance_keeps}
use Rattle.qe_relation.proofs.laws.maintenance_keeps_the_relation.Goals as goal

pub returns : goal.returns
returns c = maintenance_keeps
