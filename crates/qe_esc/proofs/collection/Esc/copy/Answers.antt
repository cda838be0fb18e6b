use Rattle.std.proofs.Common.{ap, ◌∙◌}
use Rattle.std.specs.FinMap as map
use Rattle.std.specs.List.{each_same}
use Rattle.std.proofs.lemmas.Map.Entries.{entries_from_clone}
use Rattle.qe_esc.proofs.HashLemmas.{same_option}
use Rattle.qe_esc.proofs.collection.Esc.copy.Goals as goal

pub returns : goal.returns
returns c =
    ap map.from_entries (entries_from_clone _ _ (λ x y h. each_same x y h.whole) (same_option _ (λ y h. h) (λ x h. h) (λ x y h. each_same x y h.whole)) _ _ c.in_ok-rows.ensures.cases)
    ∙ ap (λ held. held.rows) c.self.view_is
