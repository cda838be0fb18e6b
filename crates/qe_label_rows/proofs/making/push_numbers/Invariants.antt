use Rattle.std.proofs.Common.{◌≡◌, ◌-◌, ◌≤◌, ◌++◌, ℕ, List, map}
use Rattle.qe_label_rows.specs.Batches.{blank}
use Rattle.qe_label_rows.specs.Made.{rows_from}
use Rattle.qe_label_rows.proofs.making.push_numbers.Given as goal

abbrev pub invariant-loop-number : goal.invariant-loop-number
invariant-loop-number l =
    ((key : List ℕ) → l.rows.items ≡ l.initial.rows.items ++ map blank (rows_from l.kind l.word key l.fn.first (l.number - l.fn.first)))
    × (l.number - l.fn.first ≤ l.fn.end - l.fn.first)
