use Rattle.std.proofs.Common.{sym, ap, ◌∙◌}
use Rattle.std.specs.FinMap as map
use Rattle.qe_esc.proofs.HashLemmas.{map_alike, get-lookup}
use Rattle.qe_esc.proofs.collection.Esc.reserve.Goals as goal

pub returns-clause-rows : goal.returns-clause-rows
returns-clause-rows c = map_alike c.reserve.new.self.entries c.args.self.now.rows
    (λ q. c.reserve.ensures.entries.2 q ∙ sym (get-lookup c.self.inside.rows.entries q) ∙ ap (λ held. map.get held.rows q) c.self.view_is)
