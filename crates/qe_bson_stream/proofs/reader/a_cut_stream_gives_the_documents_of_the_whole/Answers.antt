use Rattle.qe_bson_stream.proofs.RunLemmas.{whole_run}
use Rattle.qe_bson_stream.proofs.reader.a_cut_stream_gives_the_documents_of_the_whole.Goals as goal

pub returns : goal.returns
returns c = whole_run
