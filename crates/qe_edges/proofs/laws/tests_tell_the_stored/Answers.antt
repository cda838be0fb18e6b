use Rattle.qe_edges.proofs.StoredLemmas.{tells_stored, tells_prefixes}
use Rattle.qe_edges.proofs.laws.tests_tell_the_stored.Goals as goal

pub returns-clause-levels : goal.returns-clause-levels
returns-clause-levels c = tells_stored

pub returns-clause-prefixes : goal.returns-clause-prefixes
returns-clause-prefixes c = tells_prefixes
