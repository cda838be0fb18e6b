use Rattle.std.proofs.Common.{take}
use Rattle.qe_store.specs.Parts.{IsSetOf}
use Rattle.qe_store.proofs.matching.set_of.Given as goal

abbrev pub invariant-loop-tag : goal.invariant-loop-tag
invariant-loop-tag l = IsSetOf (take l.tag-index l.tags) l.set
