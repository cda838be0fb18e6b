use Rattle.qe_relation.proofs.LawLemmas.{mismatches_at_strays}
use Rattle.qe_relation.proofs.laws.a_mismatch_comes_of_another_token.Goals as goal

pub returns : goal.returns
returns c = mismatches_at_strays
