use Rattle.qe_value.proofs.DistinctLemmas.{fields_distinct}
use Rattle.qe_value.proofs.NameLemmas.{Distinct-view}
use Rattle.qe_value.proofs.value.Document.len.Goals as goal

pub returns-clause-distinct : goal.returns-clause-distinct
returns-clause-distinct c = rw (← c.self.view_is) (Distinct-view c.self.inside.fields.items c.self.invariant.0)

pub returns-clause-each_level : goal.returns-clause-each_level
returns-clause-each_level c = rw (← c.self.view_is) (fields_distinct c.self.inside.fields.items c.self.invariant)
