use Rattle.std.proofs.Common.{sym, subst, ◌∙◌}
use Rattle.std.specs.List.{AllPairs}
use Rattle.qe_schema.specs.Keys.{AreApart}
use Rattle.qe_schema.proofs.keys.KeysDuplicate.copy.Goals as goal

pub invariant_of-result : goal.invariant_of-result
invariant_of-result c = subst (AllPairs AreApart) (sym (c.in_ok-keys.ensures ∙ c.slice.ensures)) c.self.invariant
