use Rattle.qe_causes.proofs.CauseLemmas.{each_has_its_cause}
use Rattle.qe_causes.proofs.laws.each_refusal_has_its_cause.Goals as goal

pub returns : goal.returns
returns c = each_has_its_cause
