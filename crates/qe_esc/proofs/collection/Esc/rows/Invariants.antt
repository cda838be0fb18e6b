use Rattle.std.proofs.Common.{◌≡◌, take}
use Rattle.std.specs.FinMap.{get}
use Rattle.qe_esc.proofs.ListedLemmas.{rows_at}
use Rattle.qe_esc.proofs.collection.Esc.rows.Given as goal

abbrev pub invariant-loop-id : goal.invariant-loop-id
invariant-loop-id l = l.rows ≡ rows_at (get l.self.rows) (take l.id-index l.id-items)
