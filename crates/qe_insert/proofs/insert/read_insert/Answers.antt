use Rattle.std.proofs.Common.{arith, rules}
use Rattle.qe_insert.specs.Insert.{insert_at, IsInsertBlob}
use Rattle.qe_insert.proofs.LawLemmas.{insert_blobs}
use Rattle.qe_parts.proofs.LawLemmas.{found_by}
use Rattle.qe_insert.proofs.insert.read_insert.Goals as goal

pub returns-clause-exact : goal.returns-clause-exact
unfolding insert_at
returns-clause-exact c = search rules

pub returns-clause-found : goal.returns-clause-found
returns-clause-found c =
    found_by insert_at IsInsertBlob insert_blobs c.read_document.result c.args.blob.now (λ i. omega (arith, c.type_inv.blob i)) (returns-clause-exact c)
