use Rattle.std.proofs.Common.{◌≡◌, take}
use Rattle.qe_store.proofs.store.copy_all.Given as goal

abbrev pub invariant-loop-number : goal.invariant-loop-number
invariant-loop-number l = l.others.items ≡ take l.number-index l.documents
