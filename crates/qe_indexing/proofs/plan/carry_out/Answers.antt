use Rattle.std.proofs.Common.{◌++◌, ap, ◌∙◌}
use Rattle.qe_indexing.specs.Plans.{planned}
use Rattle.qe_indexing.proofs.plan.carry_out.Goals as goal

pub returns : goal.returns
unfolding planned
returns c = λ i. record {
  rows = c.apply.ensures.rows i;
  ecoc = (c.add_all.ensures ∙ ap (λ entries. c.args.ecoc.now.rows ++ entries) c.slice.ensures) i;
}
