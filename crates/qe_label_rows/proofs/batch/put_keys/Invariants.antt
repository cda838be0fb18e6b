use Rattle.std.proofs.Common.{ℕ, ◌<◌, List}
use Rattle.std.specs.List.{slice_index_or}
use Rattle.qe_lanes.specs.Keys.{IsKeyedBy, IsKeyedIn}
use Rattle.qe_lanes.specs.declared.keys.LaneKey.{LaneKey}
use Rattle.qe_label_rows.specs.declared.row.Row.{Row}
use Rattle.qe_label_rows.proofs.batch.put_keys.Given as goal

abbrev pub invariant-loop-lane : goal.invariant-loop-lane
invariant-loop-lane l = (lane : ℕ) (d : Row) (e : LaneKey) (key : List ℕ) → lane < l.lane
    → IsKeyedBy (slice_index_or l.keys (slice_index_or l.rows lane d).word e) key → IsKeyedIn l.lanes lane key
