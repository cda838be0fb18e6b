use Rattle.qe_insert.proofs.LawLemmas as law
use Rattle.qe_insert.proofs.laws.insert_laws.Goals as goal

pub returns : goal.returns
returns c = law.insert_laws
