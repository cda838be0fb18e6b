use Rattle.qe_json_forms.proofs.TextLemmas.{one_text-31, one_text-63}
use Rattle.qe_json_forms.proofs.laws.an_integer_has_one_text.Goals as goal

pub returns-clause-int : goal.returns-clause-int
returns-clause-int c = one_text-31

pub returns-clause-long : goal.returns-clause-long
returns-clause-long c = one_text-63
