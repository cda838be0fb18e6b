use Rattle.std.proofs.Common.{rules, ◌≡◌, ◌+◌, ◌∷◌, [], ◌++◌, map, ap, subst, sym, ◌∙◌}
use Rattle.qe_store.specs.Kept.{Kept, IsNewId}
use Rattle.qe_store.specs.Parts.{Holds, paired}
use Rattle.qe_store.proofs.HoldLemmas.{inserted}
use Rattle.qe_store.proofs.IdLemmas.{new_by_each}
use Rattle.qe_store.proofs.store.Store.insert.Goals as goal

pub invariant_of-self : goal.invariant_of-self
invariant_of-self c =
    let a = c.self.inside in
    let items : c.push.new.self.items ≡ a.documents.items ++ (a.made, c.args.stored) ∷ [] = search rules in
    subst (λ m. Holds m (a.made + 1) c.link.new.self.pairs c.link_all.new.chains.pairs) (sym items)
    (inserted a.documents.items a.made a.ids.pairs a.tags.pairs c.link.new.self.pairs c.link_all.new.chains.pairs c.args.stored c.self.invariant
    (new_by_each a.documents.items c.args.stored.id (subst (λ (v : Kept). IsNewId c.args.stored.id v.documents) (sym c.self.view_is) c.requires.new))
    (c.link.ensures.pairs ∙ ap (λ key. a.ids.pairs ++ (key, a.made) ∷ []) c.key_of-key.ensures)
    (c.link_all.ensures.pairs ∙ ap (λ tags. a.tags.pairs ++ map (paired a.made) tags) c.slice.ensures))
