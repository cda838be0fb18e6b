use Rattle.std.proofs.Common.{sym, subst}
use Rattle.qe_label_list.specs.Order.{IsInOrder}
use Rattle.qe_rising.proofs.RisingLemmas.{labels_push}
use Rattle.qe_rising.proofs.labels.push_label.Goals as goal

pub push-requires : goal.push-requires
push-requires c = labels_push c.args.list.now c.args.label c.args.identifier c.requires (c.in_ok-stands_behind.ensures c.if-not-branch.false)

pub returns : goal.returns
returns c =
    subst IsInOrder (sym c.in_ok-push.ensures.ok) (labels_push c.args.list.now c.args.label c.args.identifier c.requires (c.in_ok-stands_behind.ensures c.if-not-branch.false))
