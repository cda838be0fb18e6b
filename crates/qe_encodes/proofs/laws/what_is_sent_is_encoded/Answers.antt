use Rattle.qe_encodes.proofs.SendingLemmas.{command_encodes}
use Rattle.qe_encodes.proofs.laws.what_is_sent_is_encoded.Goals as goal

pub returns : goal.returns
returns c = command_encodes
