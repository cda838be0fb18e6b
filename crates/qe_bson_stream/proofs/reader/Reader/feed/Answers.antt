use Rattle.qe_bson_stream.proofs.StreamLemmas.{waits_on}
use Rattle.qe_bson_stream.proofs.reader.Reader.feed.Goals as goal

pub invariant_of-self : goal.invariant_of-self
invariant_of-self c = waits_on c.self.inside.held.items c.args.piece.now _ c.self.inside.fault c.in-Ok.read c.in-Ok.ensures
