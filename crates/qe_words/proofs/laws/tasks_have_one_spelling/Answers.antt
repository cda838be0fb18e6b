use Rattle.qe_words.proofs.TaskLemmas.{asked, spells}
use Rattle.qe_words.proofs.laws.tasks_have_one_spelling.Goals as goal

pub returns : goal.returns
returns c = λ words task. (asked words task, spells words task)
