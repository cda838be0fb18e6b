use Rattle.std.proofs.Common.{sym, ap, ◌∙◌, subst, ◌<◌}
use Rattle.std.specs.FinMap as map
use Rattle.std.specs.HashMap.{spare}
use Rattle.qe_esc.proofs.HashLemmas.{inserted, if_ok}
use Rattle.qe_esc.proofs.collection.Esc.put.Goals as goal

pub returns-clause-rows : goal.returns-clause-rows
returns-clause-rows c =
    let room : 0 < spare c.self.inside.rows = subst (λ held. 0 < held.spare) (sym c.self.view_is) c.requires in
    let put = if_ok c.insert.result _ (c.insert.ensures.succeeds room) c.insert.ensures.updates in
    inserted c.self.inside.rows.entries c.insert.new.self.entries c.args.id c.args.value put.0
    ∙ ap (λ held. map.insert held.rows c.args.id c.args.value) c.self.view_is
