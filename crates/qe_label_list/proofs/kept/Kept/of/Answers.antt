use Rattle.qe_label_list.specs.Roots.{root_in}
use Rattle.qe_label_list.proofs.FieldLemmas.{field_at}
use Rattle.qe_label_list.proofs.kept.Kept.of.Goals as goal

pub returns-clause-keys : goal.returns-clause-keys
returns-clause-keys c = λ roots are kept. c.item.ensures (root_in roots c.args.field) (field_at c.args.fields.now roots c.args.field _ are c.requires)
