use Rattle.std.proofs.Common.{ℕ, take}
use Rattle.std.specs.List.{Contains}
use Rattle.qe_store.specs.declared.stored.TermSet.TheVariants.{Tags}
use Rattle.qe_store.specs.Parts.{MeetsAt}
use Rattle.qe_store.proofs.store.Store.tagged.Given as goal

abbrev pub invariant-loop-tag : goal.invariant-loop-tag
invariant-loop-tag l = (n : ℕ) → MeetsAt l.self.documents (Tags (take l.tag-index l.tags)) n → Contains l.numbers.items n
