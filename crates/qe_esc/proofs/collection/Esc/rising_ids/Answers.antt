use Rattle.std.proofs.Common.{ap, ◌∙◌, subst}
use Rattle.std.specs.FinMap as map
use Rattle.std.specs.List.Sorted.{IsPermutation}
use Rattle.qe_esc.proofs.RisingLemmas.{rising}
use Rattle.qe_esc.proofs.collection.Esc.rising_ids.Goals as goal

pub returns : goal.returns
returns c =
    let ids = c.sort_unstable.new.self.items in
    rising c.self.inside.rows.entries ids c.in_ok-ids.ensures.unique
    (subst (λ given. IsPermutation given ids) c.in_ok-ids.ensures.keys c.sort_unstable.ensures.permutation) c.sort_unstable.ensures.sorted
    ∙ ap (λ held. map.keys held.rows) c.self.view_is
