use Rattle.std.proofs.Common.{sym, subst, arith}
use Rattle.std.proofs.lemmas.Grind.{common_steps}
use Rattle.qe_insert.specs.Insert.{IsInsert}
use Rattle.qe_insert.proofs.WriteLemmas.{insert_is}
use Rattle.qe_insert.proofs.insert_written.document_of.Goals as goal

pub returns-clause-elements : goal.returns-clause-elements
returns-clause-elements c = grind (arith, common_steps)

pub returns-clause-is : goal.returns-clause-is
returns-clause-is c =
    let x = c.args.payload.now in
    subst (λ e. IsInsert x e) (sym (returns-clause-elements c))
    (insert_is x c.in_ok-document.ensures.long c.requires.value c.requires.factor c.requires.edges c.in_ok-put_edges.ensures.again c.requires.extra)
