use Rattle.qe_protocol.proofs.IdLemmas.{ids_agree}
use Rattle.qe_protocol.proofs.laws.ids_are_the_same_where_they_are_equal.Goals as goal

pub returns : goal.returns
returns c = ids_agree
