use Rattle.std.specs.Int.{w64}
use Rattle.std.proofs.lemmas.Int.{to_z-of_z}
use Rattle.qe_field.proofs.DomainLemmas.{one_domain}
use Rattle.qe_field.proofs.reading.domain_of.Goals as goal

pub returns : goal.returns
returns c =
    let a = c.args in
    let low = to_z-of_z w64 a.min c.ranges.min in
    let high = to_z-of_z w64 a.max c.ranges.max in
    let made = c.new.ensures in
    one_domain c.tests_tell_the_stored.ensures.levels a.min a.max a.sparsity a.trim c.new.result
    (rw (low, high) at made.ok) made.domain (rw (low, high) at made.order) (rw (low, high) at made.sparsity) (rw (low, high) at made.trim)
