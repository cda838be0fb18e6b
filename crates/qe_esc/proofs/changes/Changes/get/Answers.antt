use Rattle.std.proofs.Common.{sym, ap, ◌∙◌}
use Rattle.std.specs.FinMap as map
use Rattle.qe_esc.proofs.HashLemmas.{get-lookup}
use Rattle.qe_esc.proofs.changes.Changes.get.Goals as goal

pub returns : goal.returns
returns c =
    c.copied.ensures ∙ c.get.ensures.value ∙ sym (get-lookup c.self.inside.rows.entries c.args.id.now)
    ∙ ap (λ waiting. map.get waiting c.args.id.now) c.self.view_is
