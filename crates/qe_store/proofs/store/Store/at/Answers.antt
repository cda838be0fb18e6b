use Rattle.std.proofs.Common.{ap, subst, sym, ◌∙◌, ℕ, Some}
use Rattle.qe_store.specs.declared.stored.Stored.{Stored}
use Rattle.qe_store.specs.Kept.{Kept, document_at}
use Rattle.qe_store.specs.Parts.{IsPlace}
use Rattle.qe_store.proofs.PlaceLemmas.{at_place}
use Rattle.qe_store.proofs.store.Store.at.Goals as goal

pub returns : goal.returns
returns c =
    let docs = c.self.inside.documents.items in
    let found = subst (IsPlace c.deref.result.now c.args.number) (c.in_ok-at.was {u = tt}) c.place.ensures in
    let place = subst (λ m. IsPlace m c.args.number (Some c.in_ok-at.at)) c.deref.ensures.value found in
    let here = at_place docs c.self.invariant.rising c.args.number c.in_ok-at.at c.index.result.now place.0 (place.1 c.index.result.now) in
    record { exact = ap (λ (x : ℕ × Stored). Some x.1) c.index.ensures ∙ sym here ∙ ap (λ (v : Kept). document_at c.args.number v.documents) c.self.view_is }
