use Rattle.std.proofs.Common.{◌*◌, take}
use Rattle.qe_label_rows.specs.Batches.{AreKeys}
use Rattle.qe_label_rows.proofs.keys.keys_of.Given as goal

abbrev pub invariant-loop-i : goal.invariant-loop-i
invariant-loop-i l = AreKeys l.kind l.keys.items (take (16 * l.i) l.words)
