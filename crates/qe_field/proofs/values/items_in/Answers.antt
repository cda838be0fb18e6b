use Rattle.std.proofs.Common.{sym, ◌∙◌}
use Rattle.qe_value.proofs.ViewLemmas.{items_of-plain}
use Rattle.qe_field.proofs.values.items_in.Goals as goal

pub returns : goal.returns
returns c = c.as_array.ensures ∙ sym (items_of-plain c.args.value.now)
