use Rattle.std.proofs.Common.{◌∷◌, subst}
use Rattle.std.specs.Prelude.{IfOk}
use Rattle.qe_base.specs.Answers.{Answers}
use Rattle.qe_document.specs.Faults.{encode_refusal}
use Rattle.qe_document.specs.Spelling.{document_bytes, IsDocument}
use Rattle.qe_document.specs.Writing.{written_as}
use Rattle.qe_insert.specs.Insert.{written_insert}
use Rattle.qe_insert.proofs.insert_written.write_insert.Goals as goal

pub returns-in-Ok-clause-exact : goal.returns-in-Ok-clause-exact
unfolding written_insert
returns-in-Ok-clause-exact c =
    subst (λ fs. Answers (λ blob. blob) encode_refusal c.blob_of.result (written_as fs (11 ∷ document_bytes fs))) c.in-Ok.ensures.elements c.blob_of.ensures.exact

pub returns-in-Ok-clause-fits : goal.returns-in-Ok-clause-fits
returns-in-Ok-clause-fits c = subst (λ fs. IfOk c.blob_of.result (λ _. IsDocument fs)) c.in-Ok.ensures.elements c.blob_of.ensures.fits
