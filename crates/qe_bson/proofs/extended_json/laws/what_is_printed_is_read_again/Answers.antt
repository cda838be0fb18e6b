use Rattle.qe_bson.proofs.JsonValueLemmas.{reads_back}
use Rattle.qe_bson.proofs.extended_json.laws.what_is_printed_is_read_again.Goals as goal

pub returns : goal.returns
returns c = λ v d. reads_back v 100 d
