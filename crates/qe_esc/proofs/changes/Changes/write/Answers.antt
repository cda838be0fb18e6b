use Rattle.std.proofs.Common.{ap, ◌∙◌}
use Rattle.std.specs.FinMap as map
use Rattle.qe_esc.proofs.HashLemmas.{inserted}
use Rattle.qe_esc.proofs.changes.Changes.write.Goals as goal

pub returns-clause-ok : goal.returns-clause-ok
returns-clause-ok c =
    inserted c.self.inside.rows.entries c.insert.new.self.entries c.args.id c.args.row c.in_ok-insert.ensures.updates.0
    ∙ ap (λ waiting. map.insert waiting c.args.id c.args.row) c.self.view_is
