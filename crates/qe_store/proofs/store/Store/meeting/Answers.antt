use Rattle.std.proofs.Common.{IfOk, subst, sym, ap, ◌∙◌}
use Rattle.qe_store.specs.declared.stored.TermSet.TheVariants.{Tags}
use Rattle.qe_store.specs.Parts.{MeetsAt, AreThose}
use Rattle.qe_store.proofs.store.Store.meeting.Goals as goal

pub returns-in-Id : goal.returns-in-Id
returns-in-Id c = subst (λ t. IfOk c.with_id.result (λ kept. AreThose (MeetsAt c.args.self.now.documents t) c.args.numbers.now kept.items)) (sym c.in-Id.is) c.with_id.ensures

pub returns-in-Tags : goal.returns-in-Tags
returns-in-Tags c =
    subst (λ t. IfOk c.with_one_of.result (λ kept. AreThose (MeetsAt c.args.self.now.documents t) c.args.numbers.now kept.items)) (ap Tags c.slice.ensures ∙ sym c.in-Tags.is) c.with_one_of.ensures
