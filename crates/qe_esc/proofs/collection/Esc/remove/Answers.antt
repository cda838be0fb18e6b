use Rattle.std.proofs.Common.{ap, ◌∙◌}
use Rattle.std.specs.FinMap as map
use Rattle.qe_esc.proofs.HashLemmas.{removed}
use Rattle.qe_esc.proofs.collection.Esc.remove.Goals as goal

pub returns-clause-rows : goal.returns-clause-rows
returns-clause-rows c =
    removed c.self.inside.rows.entries c.remove.new.self.entries c.args.id.now c.remove.ensures.updates.0
    ∙ ap (λ held. map.remove held.rows c.args.id.now) c.self.view_is
