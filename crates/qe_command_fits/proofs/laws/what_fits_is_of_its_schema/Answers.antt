use Rattle.qe_command_fits.proofs.FittingLemmas.{fitting_laws}
use Rattle.qe_command_fits.proofs.laws.what_fits_is_of_its_schema.Goals as goal

pub returns : goal.returns
returns c = fitting_laws
