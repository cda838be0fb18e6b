use Rattle.std.proofs.Common.{◌≡◌, ◌++◌, map, length, take, drop, ap, subst, sym, ◌∙◌}
use Rattle.std.proofs.Math.Seq.{take-append_seam}
use Rattle.qe_chains.specs.Pairs.{of_others}
use Rattle.qe_store.specs.Kept.{Kept, with_new, document_at}
use Rattle.qe_store.specs.Parts.{Holds, paired}
use Rattle.qe_store.proofs.HoldLemmas.{replaced, HasSameId}
use Rattle.qe_store.proofs.PlaceLemmas.{with_length}
use Rattle.qe_store.proofs.store.Store.replace.Goals as goal

pub invariant_of-self : goal.invariant_of-self
invariant_of-self c =
    let a = c.self.inside in
    let items : take a.documents.len (c.put.new.documents ++ drop (length c.put.new.documents) a.documents.items) ≡ with_new c.args.number c.args.stored a.documents.items =
    subst (λ n. take n (c.put.new.documents ++ drop (length c.put.new.documents) a.documents.items) ≡ c.put.new.documents)
    (ap length c.put.ensures ∙ with_length c.args.number c.args.stored c.deref_mut.result.now ∙ c.deref_mut.ensures.len) (take-append_seam c.put.new.documents _)
    ∙ c.put.ensures ∙ ap (with_new c.args.number c.args.stored) c.deref_mut.ensures.value in
    subst (λ m. Holds m a.made a.ids.pairs c.relink_all.new.chains.pairs) (sym items)
    (replaced a.documents.items a.made c.args.number a.ids.pairs a.tags.pairs c.relink_all.new.chains.pairs c.args.stored c.self.invariant
    (subst (λ (v : Kept). HasSameId c.args.stored (document_at c.args.number v.documents)) (sym c.self.view_is) c.requires.there)
    (c.relink_all.ensures.pairs ∙ ap (λ tags. of_others c.args.number a.tags.pairs ++ map (paired c.args.number) tags) c.slice.ensures))
