use Rattle.qe_protocol.proofs.RowLemmas.{writes_counts}
use Rattle.qe_protocol.proofs.laws.anchors_say_what_was_counted.Goals as goal

pub returns : goal.returns
returns c = writes_counts
