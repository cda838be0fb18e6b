use Rattle.qe_json_forms.proofs.FormLemmas.{fits_64, whole_in-refused}
use Rattle.qe_json_forms.proofs.forms.long_of.Goals as goal

pub returns-in_err-n : goal.returns-in_err-n
returns-in_err-n c = rw c.from_residual.ensures (whole_in-refused _ 63 c.args.text.now c.parse.result fits_64 c.in_err-n.ensures.value c.parse.ensures.value.0)
