use Rattle.std.proofs.Common.{sym, ap, ◌∙◌}
use Rattle.std.specs.FinMap as map
use Rattle.qe_esc.proofs.HashLemmas.{len-from_entries}
use Rattle.qe_esc.proofs.collection.Esc.len.Goals as goal

pub returns : goal.returns
returns c = c.len.ensures.len ∙ sym (len-from_entries c.self.inside.rows.entries c.len.ensures.unique) ∙ ap (λ held. map.len held.rows) c.self.view_is
