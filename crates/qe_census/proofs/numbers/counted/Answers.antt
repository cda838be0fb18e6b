use Rattle.std.proofs.Common.{sym, ap, ◌++◌, ◌∙◌}
use Rattle.std.proofs.lemmas.List.{append-nil}
use Rattle.std.specs.FinMap.{entries}
use Rattle.qe_census.proofs.EntryLemmas.{Entries, risen}
use Rattle.qe_census.proofs.numbers.counted.Goals as goal

pub returns : goal.returns
returns c =
    sym (append-nil c.loop-key.words.items) ∙ ap (λ (rest : Entries). c.loop-key.words.items ++ rest) (sym c.in-None.ensures.steps.0)
    ∙ c.loop-key.invariant ∙ c.into_iter-key-iterator.ensures.into_iter_gives.0
    ∙ sym (risen c.in_ok-numbers.numbers.entries c.len.ensures.ordered) ∙ ap entries c.in_ok-numbers.ensures
