use Rattle.qe_protocol.proofs.RowLemmas.{only_count}
use Rattle.qe_protocol.proofs.laws.a_true_count_is_the_only_one.Goals as goal

pub returns : goal.returns
returns c = only_count
