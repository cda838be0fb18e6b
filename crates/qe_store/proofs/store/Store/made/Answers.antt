use Rattle.std.proofs.Common.{◌<◌, ◌≢◌, ℕ, map, subst}
use Rattle.std.specs.List.{All, AllPairs}
use Rattle.std.specs.List.Sorted.{IsStrictlyIncreasing}
use Rattle.std.proofs.lemmas.List.Elements.{All-from_recursion}
use Rattle.qe_store.specs.declared.stored.Stored.{Stored}
use Rattle.qe_store.specs.Kept.{Kept}
use Rattle.qe_store.proofs.IdLemmas.{distinct_of_each}
use Rattle.qe_store.proofs.PlaceLemmas.{rising_of_each}
use Rattle.qe_store.proofs.store.Store.made.Goals as goal

pub returns-clause-below : goal.returns-clause-below
returns-clause-below c =
    let made = c.self.inside.made in
    subst (λ (v : Kept). All (λ (d : ℕ × Stored). d.0 < made) v.documents) c.self.view_is (All-from_recursion (λ (d : ℕ × Stored). d.0 < made) c.self.inside.documents.items c.self.invariant.below)

pub returns-clause-rising : goal.returns-clause-rising
returns-clause-rising c = subst (λ (v : Kept). IsStrictlyIncreasing (map (λ (d : ℕ × Stored). d.0) v.documents)) c.self.view_is (rising_of_each c.self.inside.documents.items c.self.invariant.rising)

pub returns-clause-distinct : goal.returns-clause-distinct
returns-clause-distinct c =
    subst (λ (v : Kept). AllPairs (λ (a b : ℕ × Stored). a.1.id ≢ b.1.id) v.documents) c.self.view_is (distinct_of_each c.self.inside.documents.items c.self.invariant.distinct)
