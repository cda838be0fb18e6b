use Rattle.std.proofs.Common.{◌≡◌, subst, sym, nat_eq}
use Rattle.std.specs.List.{Contains, dedup}
use Rattle.std.specs.List.Sorted.{IsStrictlyIncreasing}
use Rattle.std.proofs.lemmas.Map.Keys.{IsStrictlyIncreasing-dedup}
use Rattle.std.proofs.lemmas.List.Filters.{dedup_is}
use Rattle.std.proofs.lemmas.List.Kept.{Contains-dedup_nat, Contains-from_dedup}
use Rattle.std.proofs.lemmas.List.Sorted.{Contains-permutation, IsPermutation-sym}
use Rattle.qe_store.proofs.matching.rising.Goals as goal

pub returns-clause-rising : goal.returns-clause-rising
returns-clause-rising c =
    let left : c.dedup.new.self.items ≡ dedup nat_eq c.sort_unstable.new.self.items = dedup_is nat_eq _ _ c.dedup.ensures.filtered in
    subst IsStrictlyIncreasing (sym left) (IsStrictlyIncreasing-dedup _ c.sort_unstable.ensures.sorted)

pub returns-clause-same : goal.returns-clause-same
returns-clause-same c = λ n.
    let left : c.dedup.new.self.items ≡ dedup nat_eq c.sort_unstable.new.self.items = dedup_is nat_eq _ _ c.dedup.ensures.filtered in
    let moved = c.sort_unstable.ensures.permutation in (
      (λ has. Contains-permutation _ _ n (IsPermutation-sym _ _ moved) (Contains-from_dedup nat_eq _ n (subst (λ xs. Contains xs n) left has))),
      (λ has. subst (λ xs. Contains xs n) (sym left) (Contains-dedup_nat _ n (Contains-permutation _ _ n moved has))),
    )
