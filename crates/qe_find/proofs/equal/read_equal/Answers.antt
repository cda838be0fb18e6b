use Rattle.std.proofs.Common.{arith, rules}
use Rattle.qe_find.specs.Equal.{equal_at, IsEqualBlob}
use Rattle.qe_find.proofs.LawLemmas.{equal_blobs}
use Rattle.qe_parts.proofs.LawLemmas.{found_by}
use Rattle.qe_find.proofs.equal.read_equal.Goals as goal

pub returns-clause-exact : goal.returns-clause-exact
unfolding equal_at
returns-clause-exact c = search rules

pub returns-clause-found : goal.returns-clause-found
returns-clause-found c =
    found_by equal_at IsEqualBlob equal_blobs c.read_document.result c.args.blob.now (λ i. omega (arith, c.type_inv.blob i)) (returns-clause-exact c)
