use Rattle.std.proofs.Common.{◌+◌, subst, sym, take, get_or}
use Rattle.std.proofs.lemmas.List.{take_all}
use Rattle.qe_store.specs.Parts.{MeetsAt, AreThose}
use Rattle.qe_store.proofs.HoldLemmas.{both}
use Rattle.qe_store.proofs.MatchLemmas.{kept_one, kept_none, by_set}
use Rattle.qe_store.specs.declared.stored.TermSet.TheVariants.{Tags}
use Rattle.qe_store.proofs.store.Store.with_one_of.Goals as goal
use Rattle.qe_store.proofs.store.Store.with_one_of.Goals.{then-has_one_of+in_ok-push, else-has_one_of}

pub loop-number-preserved : goal.loop-number-preserved
loop-number-preserved c =
    let docs = c.args.self.now.documents in
    let P = MeetsAt docs (Tags c.args.tags.now) in
    let i = c.loop-number.number-index in
    let more = take (i + 1) c.args.numbers.now in
    let old = c.loop-number.kept.items in
    let tested = by_set docs c.args.tags.now c.in_ok-wanted.wanted (get_or c.args.numbers.now i 0) c.in_ok-wanted.ensures in
    elim c.if-has_one_of.branch [
      | then-has_one_of+in_ok-push w ↦
          subst (λ v. AreThose P more v.items) (sym w.kept-is)
          (subst (AreThose P more) (sym w.in_ok-push.ensures.items) (kept_one P c.args.numbers.now old i 0 c.loop-number-test.true c.loop-number.invariant (tested.0 (c.has_one_of.ensures.0 w.if-has_one_of.true))))
      | else-has_one_of w ↦
          subst (λ v. AreThose P more v.items) (sym w.kept-is)
          (kept_none P c.args.numbers.now old i 0 c.loop-number-test.true c.loop-number.invariant (λ has. both c.has_one_of.result (c.has_one_of.ensures.1 (tested.1 has)) w.if-has_one_of.false))
    ]

pub returns : goal.returns
returns c =
    subst (λ front. AreThose (MeetsAt c.args.self.now.documents (Tags c.args.tags.now)) front c.loop-number.kept.items)
    (take_all c.loop-number.number-index c.args.numbers.now c.loop-number-test.false) c.loop-number.invariant
