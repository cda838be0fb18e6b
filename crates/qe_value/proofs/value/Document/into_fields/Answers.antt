use Rattle.qe_value.proofs.NameLemmas.{Distinct-view}
use Rattle.qe_value.proofs.value.Document.into_fields.Goals as goal

pub returns-clause-distinct : goal.returns-clause-distinct
returns-clause-distinct c = rw (← c.self.view_is) (Distinct-view c.self.inside.fields.items c.self.invariant.0)
