use Rattle.std.proofs.Common.{take}
use Rattle.qe_store.specs.Kept.{HasId}
use Rattle.qe_store.specs.Parts.{AreThose}
use Rattle.qe_store.proofs.store.Store.with_id.Given as goal

abbrev pub invariant-loop-number : goal.invariant-loop-number
invariant-loop-number l = AreThose (HasId l.self.documents l.id) (take l.number-index l.numbers) l.kept.items
