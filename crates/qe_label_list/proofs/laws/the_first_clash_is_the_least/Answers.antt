use Rattle.qe_label_list.proofs.LawLemmas.{first_is_least}
use Rattle.qe_label_list.proofs.laws.the_first_clash_is_the_least.Goals as goal

pub returns : goal.returns
returns c = first_is_least
