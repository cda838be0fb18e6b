use Rattle.std.proofs.Common.{sym, subst, rules}
use Rattle.qe_find.specs.Range.{IsRange}
use Rattle.qe_find.proofs.WriteLemmas.{range_is}
use Rattle.qe_find.proofs.range_written.document_of.Goals as goal

pub returns-clause-elements : goal.returns-clause-elements
returns-clause-elements c = search rules

pub returns-clause-is : goal.returns-clause-is
returns-clause-is c =
    let x = c.args.payload.now in
    subst (λ e. IsRange x e) (sym (returns-clause-elements c)) (range_is x c.requires.edges c.in_ok-inner.ensures.again c.requires.factor c.requires.extra)
