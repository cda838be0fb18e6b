use Rattle.qe_relation.proofs.LawLemmas.{counts_words}
use Rattle.qe_relation.proofs.laws.a_search_counts_its_word.Goals as goal

pub returns : goal.returns
returns c = counts_words
