use Rattle.qe_opening.proofs.LawLemmas.{reads_what_is_meant}
use Rattle.qe_opening.proofs.laws.a_reply_is_read_where_it_means_something.Goals as goal

pub returns : goal.returns
returns c = reads_what_is_meant
