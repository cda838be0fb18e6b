use Rattle.qe_json_forms.proofs.TextLemmas.{one_base64}
use Rattle.qe_json_forms.proofs.laws.bytes_have_one_text.Goals as goal

pub returns : goal.returns
returns c = one_base64
