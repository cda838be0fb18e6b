use Rattle.qe_strays.proofs.JoinLemmas.{strays_join}
use Rattle.qe_strays.proofs.laws.strays_are_the_words_of_a_journal.Goals as goal

pub returns : goal.returns
returns c = strays_join
