use Rattle.std.proofs.Common.{◌≡◌, ◌*◌, take, drop}
use Rattle.qe_indexing.specs.Plans.{index_in}
use Rattle.qe_indexing.specs.Items.{ItemsPlanned}
use Rattle.qe_indexing.proofs.items.index_items.Given as goal

abbrev pub invariant-loop-item : goal.invariant-loop-item
invariant-loop-item l = record {
  so_far : ItemsPlanned (index_in l.standing) l.field l.factor (take l.item-index l.items) l.nonces (drop l.place l.nonces) l.fn.plan l.plan l.blocks;
  at : l.place ≡ 2 * l.item-index;
}
