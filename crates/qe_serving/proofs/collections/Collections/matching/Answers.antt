use Rattle.std.proofs.Common.{◌↔◌, ℕ, List}
use Rattle.std.specs.Prelude.{Contains, slice_get}
use Rattle.std.specs.List.Sorted.{IsStrictlyIncreasing}
use Rattle.qe_store.specs.Kept.{IsMatch}
use Rattle.qe_serving.specs.Documents.{AreMatches, FirstMatch}
use Rattle.qe_serving.proofs.MatchLemmas.{are_matches, first_match, both_ok}
use Rattle.qe_serving.proofs.collections.Collections.matching.Goals as goal

pub returns-clause-all : goal.returns-clause-all
returns-clause-all c =
    let documents = c.args.self.now.store.documents in
    let sets = c.args.sets.now in
    both_ok (λ (numbers : List ℕ). IsStrictlyIncreasing numbers) (λ numbers. (n : ℕ) → Contains numbers n ↔ IsMatch documents sets n) (AreMatches documents sets)
    (λ numbers. are_matches documents sets numbers c.requires c.made-made.ensures.rising) c.matching.result c.matching.ensures.rising c.matching.ensures.exact

pub returns-clause-first : goal.returns-clause-first
returns-clause-first c =
    let documents = c.args.self.now.store.documents in
    let sets = c.args.sets.now in
    both_ok (λ (numbers : List ℕ). IsStrictlyIncreasing numbers) (λ numbers. (n : ℕ) → Contains numbers n ↔ IsMatch documents sets n)
    (λ numbers. FirstMatch documents sets (slice_get numbers 0))
    (λ numbers. first_match documents sets numbers c.requires c.made-made.ensures.rising) c.matching.result c.matching.ensures.rising c.matching.ensures.exact
