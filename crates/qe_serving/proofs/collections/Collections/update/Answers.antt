use Rattle.std.proofs.Common.{◌≡◌, None, sym, subst, ap, ◌∙◌}
use Rattle.std.specs.Prelude.{slice_get}
use Rattle.qe_command.specs.declared.command.Command.TheVariants.{Update}
use Rattle.qe_serving.specs.Serving.{state_in, IsServed}
use Rattle.qe_serving.proofs.ChangeLemmas.{update_none}
use Rattle.qe_serving.proofs.collections.Collections.update.Goals as goal

pub returns-clause-ok : goal.returns-clause-ok
returns-clause-ok c =
    let kept = c.args.self.now in
    let first : slice_get c.in_ok-search.field-0 0 ≡ None = ap (λ all. slice_get all 0) (sym c.slice-2.ensures) ∙ sym c.in-None.ensures.value in
    subst (IsServed (state_in kept) (state_in kept) (Update c.args.filter.now c.args.set.now) c.args.nonces.now) (sym c.searched.ensures)
    (update_none kept kept c.args.filter.now c.new-counts.result c.search.new.counts c.in_ok-search.field-0 c.new-counts.ensures c.in_ok-search.ensures
    c.args.set.now c.args.nonces.now first)
