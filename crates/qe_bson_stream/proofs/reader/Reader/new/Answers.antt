use Rattle.std.proofs.Common.{sym, subst}
use Rattle.qe_bson_stream.specs.Stream.{IsShort}
use Rattle.qe_bson_stream.proofs.StreamLemmas.{short_nothing}
use Rattle.qe_bson_stream.proofs.reader.Reader.new.Goals as goal

pub invariant_of-result : goal.invariant_of-result
invariant_of-result c = subst IsShort (sym c.new.ensures.items) short_nothing
