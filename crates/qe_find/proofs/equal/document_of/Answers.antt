use Rattle.std.proofs.Common.{sym, subst}
use Rattle.qe_document.specs.Spelling.{IsDocument}
use Rattle.qe_find.specs.Equal.{IsEqual}
use Rattle.qe_parts.proofs.EntryLemmas.{if_both, if_all}
use Rattle.qe_find.proofs.FitLemmas.{equal_fits}
use Rattle.qe_find.proofs.WriteLemmas.{equal_is}
use Rattle.qe_find.proofs.equal.document_of.Goals as goal

pub returns-clause-is : goal.returns-clause-is
returns-clause-is c =
    let x = c.args.payload.now in
    if_both c.tokens_of.result (λ document elements long. subst (λ e. IsEqual x e) (sym elements) (equal_is x long c.requires)) c.tokens_of.ensures.elements c.tokens_of.ensures.long

pub returns-clause-fits : goal.returns-clause-fits
returns-clause-fits c =
    let x = c.args.payload.now in
    if_all c.tokens_of.result (λ document elements long number. subst (λ e. IsDocument e) (sym elements) (equal_fits x long number))
    c.tokens_of.ensures.elements c.tokens_of.ensures.long c.tokens_of.ensures.number
