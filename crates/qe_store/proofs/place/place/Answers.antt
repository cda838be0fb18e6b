use Rattle.std.proofs.Common.{rules, subst, sym, ℕ}
use Rattle.std.proofs.lemmas.List.Sorted.{answers_always}
use Rattle.qe_store.specs.declared.stored.Stored.{Stored}
use Rattle.qe_store.specs.Parts.{IsPlace}
use Rattle.qe_store.proofs.PlaceLemmas.{searched}
use Rattle.qe_store.proofs.place.place.Goals as goal

pub returns : goal.returns
returns c =
    let facts = c.binary_search_by_key.ensures in
    let by_key = facts.position (λ (d : ℕ × Stored). d.0) (answers_always _ _ _ (λ f a r g called. search rules)) in
    subst (IsPlace c.args.documents.now c.args.number) (sym c.ok.ensures.value) (searched c.args.documents.now c.requires c.args.number _ facts.bound by_key)
