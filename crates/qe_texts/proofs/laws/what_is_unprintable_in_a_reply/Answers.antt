use Rattle.qe_texts.proofs.UnprintableLemmas.{unprintable}
use Rattle.qe_texts.proofs.laws.what_is_unprintable_in_a_reply.Goals as goal

pub returns : goal.returns
returns c = unprintable
