use Rattle.std.proofs.Common.{◌≡◌, ◌++◌, drop, map}
use Rattle.qe_label_rows.specs.Batches.{blank}
use Rattle.qe_label_rows.specs.Made.{rows_of_kind}
use Rattle.qe_label_rows.proofs.making.push_kind.Given as goal

abbrev pub invariant-loop-place : goal.invariant-loop-place
invariant-loop-place l =
    l.rows.items ++ map blank (rows_of_kind l.kind l.place (drop l.place l.words)) ≡ l.initial.rows.items ++ map blank (rows_of_kind l.kind 0 l.words)
