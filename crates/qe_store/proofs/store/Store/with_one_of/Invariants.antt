use Rattle.std.proofs.Common.{take}
use Rattle.qe_store.specs.Parts.{MeetsAt, AreThose}
use Rattle.qe_store.specs.declared.stored.TermSet.TheVariants.{Tags}
use Rattle.qe_store.proofs.store.Store.with_one_of.Given as goal

abbrev pub invariant-loop-number : goal.invariant-loop-number
invariant-loop-number l = AreThose (MeetsAt l.self.documents (Tags l.tags)) (take l.number-index l.numbers) l.kept.items
