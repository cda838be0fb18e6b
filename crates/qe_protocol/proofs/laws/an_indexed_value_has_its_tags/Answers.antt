use Rattle.qe_protocol.proofs.TagLemmas.{stores_tags}
use Rattle.qe_protocol.proofs.laws.an_indexed_value_has_its_tags.Goals as goal

pub returns : goal.returns
returns c = stores_tags
