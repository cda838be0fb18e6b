use Rattle.qe_laws.proofs.FrontLemmas.{fronts_are}
use Rattle.qe_laws.proofs.laws.a_front_is_a_journal.Goals as goal

pub returns : goal.returns
returns c = fronts_are
