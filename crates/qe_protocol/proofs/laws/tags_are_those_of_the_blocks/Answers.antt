use Rattle.qe_protocol.proofs.DocumentLemmas.{next-tagged}
use Rattle.qe_protocol.proofs.laws.tags_are_those_of_the_blocks.Goals as goal

pub returns : goal.returns
returns c = next-tagged
