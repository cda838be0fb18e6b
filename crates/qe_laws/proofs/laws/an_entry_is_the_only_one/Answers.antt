use Rattle.qe_laws.proofs.OneAllLemmas.{one_now}
use Rattle.qe_laws.proofs.laws.an_entry_is_the_only_one.Goals as goal

pub returns : goal.returns
returns c = one_now
