use Rattle.std.proofs.Common.{sym, ◌∙◌}
use Rattle.qe_value.proofs.ViewLemmas.{fields_of-plain}
use Rattle.qe_field.proofs.values.elements_in.Goals as goal

pub returns : goal.returns
returns c = c.as_document.ensures ∙ sym (fields_of-plain c.args.value.now)
