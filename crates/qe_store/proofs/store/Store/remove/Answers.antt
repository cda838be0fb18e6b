use Rattle.std.proofs.Common.{subst, sym}
use Rattle.qe_store.specs.Parts.{Holds}
use Rattle.qe_store.proofs.HoldLemmas.{removed}
use Rattle.qe_store.proofs.store.Store.remove.Goals as goal

pub invariant_of-self : goal.invariant_of-self
invariant_of-self c =
    let a = c.self.inside in
    subst (λ m. Holds m a.made c.unlink_all-2.new.chains.pairs c.unlink_all.new.chains.pairs) (sym c.take_out.ensures.items)
    (removed a.documents.items a.made c.args.number a.ids.pairs a.tags.pairs c.unlink_all-2.new.chains.pairs c.unlink_all.new.chains.pairs c.self.invariant c.unlink_all-2.ensures.pairs c.unlink_all.ensures.pairs)
