use Rattle.std.proofs.Common.{◌≡◌, [], Some, None, refl, sym, subst, ap, ◌∙◌}
use Rattle.std.specs.Prelude.{slice_get}
use Rattle.qe_command.specs.declared.command.Command.TheVariants.{Delete}
use Rattle.qe_serving.specs.declared.collections.Collections.{Collections}
use Rattle.qe_serving.specs.Serving.{state_in, IsServed}
use Rattle.qe_serving.proofs.ChangeLemmas.{delete_served, delete_none}
use Rattle.qe_serving.proofs.collections.Collections.delete.Goals as goal

pub returns-in-Some-clause-ok : goal.returns-in-Some-clause-ok
returns-in-Some-clause-ok c =
    let kept = c.args.self.now in
    let terms = c.args.filter.now in
    let after : Collections = record kept { store = c.remove.new.self } in
    let first : slice_get c.in_ok-search.field-0 0 ≡ Some c.in-Some.number.now = ap (λ all. slice_get all 0) (sym c.slice-2.ensures) ∙ sym c.in-Some.ensures.value in
    subst (IsServed (state_in kept) (state_in after) (Delete terms) []) (sym c.searched.ensures)
    (delete_served kept after terms c.new-counts.result c.search.new.counts c.in_ok-search.field-0 c.new-counts.ensures c.in_ok-search.ensures
    c.in-Some.number.now [] first c.remove.ensures.documents refl)

pub returns-clause-ok : goal.returns-clause-ok
returns-clause-ok c =
    let kept = c.args.self.now in
    let terms = c.args.filter.now in
    let first : slice_get c.in_ok-search.field-0 0 ≡ None = ap (λ all. slice_get all 0) (sym c.slice-2.ensures) ∙ sym c.in-None.ensures.value in
    subst (IsServed (state_in kept) (state_in kept) (Delete terms) []) (sym c.searched-in-None.ensures)
    (delete_none kept kept terms c.new-counts.result c.search.new.counts c.in_ok-search.field-0 c.new-counts.ensures c.in_ok-search.ensures [] first)
