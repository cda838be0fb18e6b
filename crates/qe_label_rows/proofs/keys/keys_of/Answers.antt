use Rattle.std.proofs.Common.{◌*◌, take}
use Rattle.std.proofs.lemmas.List.{take_rest}
use Rattle.qe_label_rows.proofs.KeyLemmas.{batch_more}
use Rattle.qe_label_rows.proofs.keys.keys_of.Goals as goal

pub loop-i-preserved : goal.loop-i-preserved
loop-i-preserved c =
    rw (← batch_more c.args.words.now c.loop-i.i, ← take_rest c.args.words.now (16 * c.loop-i.i))
    (c.in_ok-push_keys.ensures (take (16 * c.loop-i.i) c.args.words.now) c.loop-i.invariant)
