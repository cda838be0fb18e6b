use Rattle.std.proofs.Common.{◌+◌, subst, sym, take}
use Rattle.std.proofs.lemmas.List.{take_all}
use Rattle.qe_store.specs.Kept.{HasId}
use Rattle.qe_store.specs.Parts.{AreThose}
use Rattle.qe_store.proofs.HoldLemmas.{both}
use Rattle.qe_store.proofs.MatchLemmas.{kept_one, kept_none}
use Rattle.qe_store.proofs.store.Store.with_id.Goals as goal
use Rattle.qe_store.proofs.store.Store.with_id.Goals.{then-has_id+in_ok-push, else-has_id}

pub loop-number-preserved : goal.loop-number-preserved
loop-number-preserved c =
    let P = HasId c.args.self.now.documents c.args.id.now in
    let i = c.loop-number.number-index in
    let more = take (i + 1) c.args.numbers.now in
    let old = c.loop-number.kept.items in
    elim c.if-has_id.branch [
      | then-has_id+in_ok-push w ↦
          subst (λ v. AreThose P more v.items) (sym w.kept-is)
          (subst (AreThose P more) (sym w.in_ok-push.ensures.items) (kept_one P c.args.numbers.now old i 0 c.loop-number-test.true c.loop-number.invariant (c.has_id.ensures.0 w.if-has_id.true)))
      | else-has_id w ↦
          subst (λ v. AreThose P more v.items) (sym w.kept-is)
          (kept_none P c.args.numbers.now old i 0 c.loop-number-test.true c.loop-number.invariant (λ has. both c.has_id.result (c.has_id.ensures.1 has) w.if-has_id.false))
    ]

pub returns : goal.returns
returns c =
    subst (λ front. AreThose (HasId c.args.self.now.documents c.args.id.now) front c.loop-number.kept.items)
    (take_all c.loop-number.number-index c.args.numbers.now c.loop-number-test.false) c.loop-number.invariant
