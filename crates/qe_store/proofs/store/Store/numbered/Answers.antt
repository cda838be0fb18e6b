use Rattle.std.proofs.Common.{◌++◌, ◌∷◌, [], subst, sym}
use Rattle.std.specs.List.{Contains}
use Rattle.std.proofs.lemmas.List.Elements.{Contains-push}
use Rattle.qe_store.proofs.IdLemmas.{new_by_each, new_nowhere}
use Rattle.qe_store.proofs.store.Store.numbered.Goals as goal
use Rattle.qe_store.proofs.store.Store.numbered.Goals.{in-Some+in_ok-push, in_default}

pub returns : goal.returns
returns c = λ n has. elim c.match-number_of.branch [
  | in-Some+in_ok-push w ↦
      let front = c.new-numbers.result.items in
      let number = w.in-Some.number in
      subst (λ v. Contains v.items n) (sym w.numbers-is)
      (subst (λ xs. Contains xs n) (sym w.in_ok-push.ensures.items) (subst (Contains (front ++ number ∷ [])) (sym ((w.in-Some.ensures.exact n).0 has)) (Contains-push front number)))
  | in_default w ↦ absurd (new_nowhere c.args.self.now.documents c.args.id.now n (new_by_each c.args.self.now.documents c.args.id.now w.in_default.ensures.exact) has)
]
