use Rattle.std.proofs.Common.{◌≡◌, map, take}
use Rattle.qe_store.proofs.store.numbers_of.Given as goal

abbrev pub invariant-loop-document : goal.invariant-loop-document
invariant-loop-document l = l.numbers.items ≡ map (λ d. d.0) (take l.document-index l.documents)
