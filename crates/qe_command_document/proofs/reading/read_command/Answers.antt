use Rattle.std.proofs.Common.{arith, rules, sym, subst}
use Rattle.qe_document.specs.Names.{Distinct}
use Rattle.qe_command_document.specs.CellDocuments.{doc_rows}
use Rattle.qe_command_document.specs.CommandDocument.{command_at}
use Rattle.qe_command_document.proofs.DocumentLemmas.{found}
use Rattle.qe_command_document.proofs.SchemaLemmas.{rows_apart}
use Rattle.qe_command_document.proofs.reading.read_command.Goals as goal

pub returns-clause-exact : goal.returns-clause-exact
unfolding command_at
returns-clause-exact c = search rules

pub returns-clause-found : goal.returns-clause-found
returns-clause-found c =
    found c.args.schema.now c.read_document.result c.args.bytes.now (λ i. omega (arith, c.type_inv.bytes i)) (returns-clause-exact c)

pub read_document-requires-clause-apart : goal.read_document-requires-clause-apart
read_document-requires-clause-apart c =
    subst (λ fields. Distinct (doc_rows fields)) (sym c.fields.ensures.all) (rows_apart c.args.schema.now c.fields.ensures.schema)
