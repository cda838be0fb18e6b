use Rattle.qe_value.proofs.DistinctLemmas.{items_distinct}
use Rattle.qe_value.proofs.value.Values.keeps_names.Goals as goal

pub returns : goal.returns
returns c = rw (← c.self.view_is) (items_distinct c.self.inside.items.items c.self.invariant)
