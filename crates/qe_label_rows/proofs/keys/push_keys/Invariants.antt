use Rattle.std.proofs.Common.{◌++◌, List, take}
use Rattle.qe_label_rows.specs.declared.row.WordTokens.{WordTokens}
use Rattle.qe_label_rows.specs.Batches.{AreKeys}
use Rattle.qe_label_rows.proofs.keys.push_keys.Given as goal

abbrev pub invariant-loop-lane : goal.invariant-loop-lane
invariant-loop-lane l = (before : List WordTokens) → AreKeys l.fn.kind l.initial.keys.items before → AreKeys l.fn.kind l.keys.items (before ++ take l.lane l.words)
