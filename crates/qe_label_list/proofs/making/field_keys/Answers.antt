use Rattle.std.proofs.Common.{◌<◌, length, arith}
use Rattle.qe_label_list.proofs.FieldLemmas.{fields_next}
use Rattle.qe_label_list.proofs.making.field_keys.Goals as goal

pub loop-root-preserved : goal.loop-root-preserved
loop-root-preserved c =
    let within : c.loop-root.root-index < length c.args.roots.now = omega arith in
    rw c.in_ok-push.ensures.items
    (fields_next c.loop-root.fields.items c.args.roots.now c.loop-root.root-index _ c.new.result within c.loop-root.invariant c.new.ensures)
