use Rattle.qe_protocol.proofs.JournalLemmas.{grows_by_entries}
use Rattle.qe_protocol.proofs.laws.journals_grow_by_entries.Goals as goal

pub returns : goal.returns
returns c = grows_by_entries
