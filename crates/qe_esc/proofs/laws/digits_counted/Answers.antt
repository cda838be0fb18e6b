use Rattle.qe_esc.proofs.DigitLemmas.{has_digits}
use Rattle.qe_esc.proofs.laws.digits_counted.Goals as goal

pub returns : goal.returns
returns c = has_digits
