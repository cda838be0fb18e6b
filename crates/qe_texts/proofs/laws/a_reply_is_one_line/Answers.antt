use Rattle.qe_texts.proofs.OneLineLemmas.{reply_is_line}
use Rattle.qe_texts.proofs.laws.a_reply_is_one_line.Goals as goal

pub returns : goal.returns
returns c = reply_is_line
