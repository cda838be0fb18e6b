use Rattle.qe_texts.proofs.FormedLemmas.{none_held}
use Rattle.qe_texts.proofs.laws.what_is_printable_stays_so.Goals as goal

pub returns : goal.returns
returns c = none_held
