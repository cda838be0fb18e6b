use Rattle.qe_due.proofs.DueLemmas.{due_is}
use Rattle.qe_due.proofs.laws.what_is_due_has_one_status.Goals as goal
use Rattle.qe_words.specs.Words.{words_of}

pub returns : goal.returns
returns c = λ words left after status text input left_is is. due_is (words_of words) left after status text input left_is is
