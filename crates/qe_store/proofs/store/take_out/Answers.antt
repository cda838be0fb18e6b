use Rattle.std.proofs.Common.{◌∙◌, subst, None, Some}
use Rattle.qe_store.specs.Parts.{IsPlace}
use Rattle.qe_store.proofs.PlaceLemmas.{remove_at, none_without}
use Rattle.qe_store.proofs.store.take_out.Goals as goal

pub returns-in-Some-clause-items : goal.returns-in-Some-clause-items
returns-in-Some-clause-items c =
    let docs = c.args.documents.now.items in
    let found = subst (IsPlace c.deref.result.now c.args.number) c.in-Some.is c.place.ensures in
    let place = subst (λ m. IsPlace m c.args.number (Some c.in-Some.at)) c.deref.ensures.value found in
    c.remove.ensures.items ∙ remove_at docs c.requires c.args.number c.in-Some.at c.remove.result place.0 (place.1 c.remove.result)

pub returns-in_default-clause-items : goal.returns-in_default-clause-items
returns-in_default-clause-items c =
    let none = subst (IsPlace c.deref.result.now c.args.number) c.in_default.is c.place.ensures in
    none_without c.args.documents.now.items c.args.number (subst (λ m. IsPlace m c.args.number None) c.deref.ensures.value none)
