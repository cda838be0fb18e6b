use Rattle.qe_protocol.proofs.UnitLemmas.{counts_opened}
use Rattle.qe_protocol.proofs.laws.counts_are_as_many_as_rows_opened.Goals as goal

pub returns : goal.returns
returns c = counts_opened
