use Rattle.std.proofs.Common.{◌≡◌, sym, ap, ◌∙◌, Some}
use Rattle.std.specs.Prelude.{is_some}
use Rattle.std.specs.FinMap.{insert}
use Rattle.qe_esc.specs.Changes.{changed}
use Rattle.std.proofs.lemmas.Result.{on_ok_weaker}
use Rattle.qe_esc.proofs.ChangesLemmas.{changed-insert, with_row-new}
use Rattle.qe_esc.proofs.changes.plan_row.Goals as goal

pub returns-clause-ok : goal.returns-clause-ok
returns-clause-ok c =
    let rows = c.args.rows.now.rows in
    let waiting = c.args.changes.now in
    let new = ap is_some (sym c.get.ensures) ∙ sym c.is_some.ensures ∙ c.if-is_some.false in
    on_ok_weaker c.write.result
    (λ (is : c.write.new.self ≡ insert waiting c.args.id (Some c.args.value)). ap (changed rows) is ∙ changed-insert rows waiting c.args.id (Some c.args.value) ∙ with_row-new (changed rows waiting) c.args.id c.args.value new)
    c.write.ensures.ok
