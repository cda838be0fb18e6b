use Rattle.qe_plain.proofs.SameLemmas.{same_are_equal}
use Rattle.qe_plain.proofs.laws.values_are_the_same_where_they_are_equal.Goals as goal

pub returns : goal.returns
returns c = same_are_equal
