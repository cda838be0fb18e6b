use Rattle.qe_label_list.proofs.LawLemmas.{none_is_clear}
use Rattle.qe_label_list.proofs.laws.a_list_without_a_clash_has_none.Goals as goal

pub returns : goal.returns
returns c = none_is_clear
