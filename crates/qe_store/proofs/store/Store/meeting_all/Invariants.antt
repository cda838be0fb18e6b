use Rattle.std.proofs.Common.{ℕ}
use Rattle.std.specs.List.{Contains}
use Rattle.qe_store.specs.Kept.{IsMatch}
use Rattle.qe_store.proofs.MatchLemmas.{MeetsFirst}
use Rattle.qe_store.proofs.store.Store.meeting_all.Given as goal

abbrev pub invariant-loop-term : goal.invariant-loop-term
invariant-loop-term l = record {
  sound : (n : ℕ) → Contains l.numbers.items n → MeetsFirst l.self.documents l.terms l.term-index n;
  whole : (n : ℕ) → IsMatch l.self.documents l.terms n → Contains l.numbers.items n;
}
