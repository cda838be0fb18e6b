use Rattle.qe_find.proofs.LawLemmas.{equal_laws, range_laws}
use Rattle.qe_find.proofs.laws.find_laws.Goals as goal

pub returns-clause-equal : goal.returns-clause-equal
returns-clause-equal c = equal_laws

pub returns-clause-range : goal.returns-clause-range
returns-clause-range c = range_laws
