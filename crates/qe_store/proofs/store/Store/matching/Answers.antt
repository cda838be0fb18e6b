use Rattle.std.proofs.Common.{◌≡◌, ◌↔◌, [], map, subst, sym, ◌∙◌, ap}
use Rattle.std.specs.List.{Contains}
use Rattle.qe_store.specs.Kept.{Kept, IsMatch}
use Rattle.qe_store.proofs.MatchLemmas.{all_match}
use Rattle.qe_store.proofs.store.Store.matching.Goals as goal
use Rattle.qe_store.proofs.store.Store.matching.Goals.{in-None+in_ok-numbers-in-None, in-Some+in_ok-numbers-in-Some}

pub returns-clause-exact : goal.returns-clause-exact
returns-clause-exact c = λ n.
    let docs = c.args.self.now.documents in
    let terms = c.args.terms.now in
    let numbers : Contains c.match-smallest.numbers.items n ↔ IsMatch docs terms n = elim c.match-smallest.branch [
      | in-None+in_ok-numbers-in-None w ↦
          let none : terms ≡ [] = sym c.slice.ensures ∙ w.in-None.ensures.none in
          let items = ap (λ v. v.items) w.numbers-is ∙ w.in_ok-numbers-in-None.ensures ∙ ap (map (λ d. d.0)) (w.deref.ensures.value ∙ ap (λ (v : Kept). v.documents) c.self.view_is) in
          subst (λ xs. Contains xs n ↔ IsMatch docs terms n) (sym items) (subst (λ ts. Contains (map (λ d. d.0) docs) n ↔ IsMatch docs ts n) (sym none) (all_match docs n))
      | in-Some+in_ok-numbers-in-Some w ↦
          subst (λ v. Contains v.items n ↔ IsMatch docs terms n) (sym w.numbers-is)
          (subst (λ ts. Contains w.in_ok-numbers-in-Some.numbers.items n ↔ IsMatch docs ts n) w.slice-in-Some.ensures (w.in_ok-numbers-in-Some.ensures n))
    ] in
    let same = c.rising.ensures.same n in (
      (λ has. numbers.0 (same.0 (subst (λ xs. Contains xs n) c.from_vec.ensures has))),
      (λ met. subst (λ xs. Contains xs n) (sym c.from_vec.ensures) (same.1 (numbers.1 met))),
    )
