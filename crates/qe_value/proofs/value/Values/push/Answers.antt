use Rattle.qe_value.proofs.DistinctLemmas.{items_kept}
use Rattle.qe_value.proofs.value.Values.push.Goals as goal

pub invariant_of-self-2 : goal.invariant_of-self-2
invariant_of-self-2 c = rw c.in_ok-push.ensures.items (items_kept c.self.inside.items.items c.args.item c.self.invariant c.keeps_names.ensures)
