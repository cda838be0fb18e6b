use Rattle.std.proofs.Common.{◌≡◌, ◌∷◌, sym, ◌∙◌, ap, subst, Some}
use Rattle.qe_chains.specs.declared.nodes.Place.{Place}
use Rattle.qe_chains.specs.Nodes.{pairs_from, pair_at}
use Rattle.qe_chains.specs.Sound.{Way}
use Rattle.qe_chains.proofs.ReadLemmas.{step}
use Rattle.qe_chains.proofs.links.Links.next.Goals as goal

pub returns-clause-next : goal.returns-clause-next
returns-clause-next c =
    let nodes = c.self.inside.nodes.now in
    let side = c.self.inside.side in
    let at = c.in_ok-node.field-0 in
    let was : c.self.inside.at ≡ Some at = c.in_ok-node.was {u = tt} in
    let on = step nodes side at c.self.invariant.0 (subst (λ o. Way nodes side o c.self.invariant.0) was c.self.invariant.1) in
    sym c.self.view_is ∙ ap (pairs_from nodes side) was ∙ on.pairs ∙ ap (λ (p : Place). pair_at nodes at ∷ pairs_from nodes side p.after) (sym c.place.ensures)
