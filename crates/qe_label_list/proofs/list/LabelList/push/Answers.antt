use Rattle.std.proofs.Common.{◌≡◌, List, ℕ, [], ◌∷◌, ◌++◌, length, sym, ◌∙◌, subst, arith}
use Rattle.qe_tokens.specs.declared.words.Label.{Label}
use Rattle.qe_label_list.specs.Order.{IsInOrder}
use Rattle.qe_label_list.proofs.HeldLemmas.{entries_grown, entries_pushed, held_grown, held_pushed, on_err}
use Rattle.qe_label_list.proofs.list.LabelList.push.Goals as goal

pub invariant_of-self-in_err-push-2 : goal.invariant_of-self-in_err-push-2
invariant_of-self-in_err-push-2 c =
    rw (c.in_ok-push.ensures.items, c.in_err-push-2.ensures.items) (held_grown c.self.inside.words.items c.args.label.word c.self.inside.rows.items c.self.invariant)

pub invariant_of-self-2 : goal.invariant_of-self-2
invariant_of-self-2 c =
    let place : c.len-place.result ≡ length c.self.inside.words.items = omega arith in
    let rising = subst (λ (es : List (Label × List ℕ)). IsInOrder (es ++ (c.args.label, c.args.identifier) ∷ [])) (sym c.self.view_is) c.requires in
    rw (c.in_ok-push.ensures.items, c.in_ok-push-2.ensures.items)
    (held_pushed c.self.inside.words.items c.args.label.word c.self.inside.rows.items c.args.label.kind c.args.label.number c.args.identifier c.self.invariant
    c.len-place.result place rising)

pub returns-in_err-push-2-clause-err : goal.returns-in_err-push-2-clause-err
returns-in_err-push-2-clause-err c =
    on_err c.from_residual-in_err-push-2.result _ (rw (c.in_ok-push.ensures.items, c.in_err-push-2.ensures.items)
    (entries_grown c.self.inside.words.items c.args.label.word c.self.inside.rows.items c.self.invariant.known ∙ c.self.view_is))

pub returns-clause-ok : goal.returns-clause-ok
returns-clause-ok c =
    let place : c.len-place.result ≡ length c.self.inside.words.items = omega arith in
    rw (c.in_ok-push.ensures.items, c.in_ok-push-2.ensures.items, ← c.self.view_is)
    (entries_pushed c.self.inside.words.items c.args.label.word c.self.inside.rows.items c.args.label.kind c.args.label.number c.args.identifier c.self.invariant
    c.len-place.result place)
