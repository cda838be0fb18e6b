use Rattle.std.proofs.Common.{◌≡◌, ℕ, ◌++◌, List, map, take, drop}
use Rattle.qe_label_rows.specs.declared.row.Row.{Row}
use Rattle.qe_label_rows.specs.Batches.{AreFirst, HaveWords, identified_by}
use Rattle.qe_label_rows.proofs.batch.write_identifiers.Given as goal

abbrev pub invariant-loop-lane : goal.invariant-loop-lane
invariant-loop-lane l =
    ((f : Row → List ℕ) → AreFirst f l.identifiers l.fn.rows → l.rows ≡ map (identified_by f) (take l.lane l.fn.rows) ++ drop l.lane l.fn.rows)
    × ((count : ℕ) → HaveWords count l.fn.rows → HaveWords count l.rows)
