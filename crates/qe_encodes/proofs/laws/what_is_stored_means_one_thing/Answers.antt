use Rattle.qe_encodes.proofs.DecodeLemmas.{means_one}
use Rattle.qe_encodes.proofs.laws.what_is_stored_means_one_thing.Goals as goal

pub returns : goal.returns
returns c = means_one
