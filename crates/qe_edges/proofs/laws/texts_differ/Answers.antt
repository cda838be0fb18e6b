use Rattle.qe_edges.proofs.TextLemmas.{texts_differ}
use Rattle.qe_edges.proofs.laws.texts_differ.Goals as goal

pub returns : goal.returns
returns c = texts_differ
