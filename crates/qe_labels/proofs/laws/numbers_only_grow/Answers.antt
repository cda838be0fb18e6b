use Rattle.qe_labels.proofs.NumberLemmas.{grows}
use Rattle.qe_labels.proofs.laws.numbers_only_grow.Goals as goal

pub returns : goal.returns
returns c = grows
