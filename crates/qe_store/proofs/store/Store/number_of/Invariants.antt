use Rattle.std.proofs.Common.{◌≡◌, ℕ, true, length}
use Rattle.qe_store.specs.Kept.{HasId}
use Rattle.qe_store.proofs.IdLemmas.{among}
use Rattle.qe_store.proofs.store.Store.number_of.Given as goal

abbrev pub invariant-loop-link : goal.invariant-loop-link
invariant-loop-link l = (n : ℕ) → HasId l.self.documents l.id n → among n l.links ≡ true

abbrev pub decreases-loop-link : goal.decreases-loop-link
decreases-loop-link l = length l.links
