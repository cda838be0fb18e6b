use Rattle.qe_plain.proofs.PutLemmas.{puts_one}
use Rattle.qe_plain.proofs.laws.a_set_cell_takes_its_fields_place.Goals as goal

pub returns : goal.returns
returns c = puts_one
