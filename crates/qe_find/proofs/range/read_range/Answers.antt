use Rattle.std.proofs.Common.{arith, rules}
use Rattle.qe_find.specs.Range.{range_at, IsRangeBlob}
use Rattle.qe_find.proofs.LawLemmas.{range_blobs}
use Rattle.qe_parts.proofs.LawLemmas.{found_by}
use Rattle.qe_find.proofs.range.read_range.Goals as goal

pub returns-clause-exact : goal.returns-clause-exact
unfolding range_at
returns-clause-exact c = search rules

pub returns-clause-found : goal.returns-clause-found
returns-clause-found c =
    found_by range_at IsRangeBlob range_blobs c.read_document.result c.args.blob.now (λ i. omega (arith, c.type_inv.blob i)) (returns-clause-exact c)
