use Rattle.std.proofs.Common.{◌≡◌, ℕ, ◌<◌, length, slice_index}
use Rattle.std.specs.List.{slice_index_or}
use Rattle.qe_label_rows.specs.declared.row.Row.{Row}
use Rattle.qe_label_rows.proofs.batch.first_numbers.Given as goal

abbrev pub invariant-loop-lane : goal.invariant-loop-lane
invariant-loop-lane l =
    (length l.numbers ≡ 16) × ((lane : ℕ) (d : Row) → lane < l.lane → slice_index l.numbers lane ≡ (slice_index_or l.rows lane d).number)
