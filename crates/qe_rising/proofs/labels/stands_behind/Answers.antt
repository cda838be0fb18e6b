use Rattle.std.proofs.Common.{arith}
use Rattle.qe_rising.proofs.RisingLemmas.{label_behind}
use Rattle.qe_rising.proofs.labels.stands_behind.Goals as goal

pub returns : goal.returns
returns c = λ before.
    label_behind c.args.list.now c.in_ok-last.last c.args.label.now _ (omega arith) c.in_ok-last.ensures (c.is_before.ensures before)
