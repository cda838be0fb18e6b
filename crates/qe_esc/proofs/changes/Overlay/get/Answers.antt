use Rattle.std.proofs.Common.{sym, ap, ◌∙◌, unwrap_or}
use Rattle.std.specs.FinMap.{get}
use Rattle.qe_esc.proofs.ChangesLemmas.{get-changed}
use Rattle.qe_esc.proofs.changes.Overlay.get.Goals as goal

pub returns-in-Some : goal.returns-in-Some
returns-in-Some c =
    let rows = c.args.self.now.rows.now.rows in
    sym (get-changed rows c.args.self.now.changes.now c.args.id.now ∙ ap (λ row. unwrap_or row (get rows c.args.id.now)) (sym c.get.ensures ∙ c.in-Some.is))

pub returns-in-None : goal.returns-in-None
returns-in-None c =
    let rows = c.args.self.now.rows.now.rows in
    c.get-in-None.ensures
    ∙ sym (get-changed rows c.args.self.now.changes.now c.args.id.now ∙ ap (λ row. unwrap_or row (get rows c.args.id.now)) (sym c.get.ensures ∙ c.in-None.is))
