use Rattle.std.proofs.Common.{◌≡◌, ◌++◌}
use Rattle.qe_protocol.specs.Filters.{tags_upto}
use Rattle.qe_indexing.proofs.terms.push_tags.Given as goal

abbrev pub invariant-loop-count : goal.invariant-loop-count
invariant-loop-count l = l.tags ≡ l.fn.tags ++ tags_upto l.key.0 l.count
