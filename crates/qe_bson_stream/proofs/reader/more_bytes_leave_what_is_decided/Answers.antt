use Rattle.qe_bson_stream.proofs.StreamLemmas.{decided}
use Rattle.qe_bson_stream.proofs.reader.more_bytes_leave_what_is_decided.Goals as goal

pub returns : goal.returns
returns c = decided
