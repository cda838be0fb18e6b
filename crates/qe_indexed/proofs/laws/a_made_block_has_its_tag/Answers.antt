use Rattle.qe_indexed.proofs.BlockLemmas.{tag_in-made}
use Rattle.qe_indexed.proofs.laws.a_made_block_has_its_tag.Goals as goal

pub returns : goal.returns
returns c = tag_in-made
