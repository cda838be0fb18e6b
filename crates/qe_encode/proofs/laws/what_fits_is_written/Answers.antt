use Rattle.qe_encode.proofs.FlatLemmas.{writing_laws}
use Rattle.qe_encode.proofs.laws.what_fits_is_written.Goals as goal

pub returns : goal.returns
returns c = writing_laws
