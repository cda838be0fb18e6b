use Rattle.std.proofs.Common.{◌≡◌, ◌*◌, length, ◌++◌, List, map, take, drop}
use Rattle.qe_label_rows.specs.declared.row.WordTokens.{WordTokens}
use Rattle.qe_label_rows.specs.Batches.{AreKeys, HaveWords, identified}
use Rattle.qe_label_rows.proofs.batch.identify.Given as goal

abbrev pub invariant-loop-i : goal.invariant-loop-i
invariant-loop-i l =
    ((words : List WordTokens) → AreKeys l.kind l.keys words → l.rows ≡ map (identified l.kind words) (take (16 * l.i) l.fn.rows) ++ drop (16 * l.i) l.fn.rows)
    × HaveWords (length l.keys) l.rows
