use Rattle.std.proofs.Common.{Ok, ◌∷◌, subst, ap, ◌∙◌}
use Rattle.qe_base.specs.Answers.{Answers}
use Rattle.qe_document.specs.Faults.{encode_refusal}
use Rattle.qe_document.specs.Spelling.{document_bytes}
use Rattle.qe_encode.proofs.FlatLemmas.{written_whole}
use Rattle.qe_find.specs.Equal.{written_equal}
use Rattle.qe_find.proofs.equal.write_equal.Goals as goal

pub returns-in-Ok-clause-exact : goal.returns-in-Ok-clause-exact
unfolding written_equal
returns-in-Ok-clause-exact c =
    let document = c.in-Ok.document in
    subst (λ due. Answers (λ blob. blob) encode_refusal c.blob_of.result due) (written_whole document (12 ∷ document_bytes document) c.in-Ok.ensures.fits ∙ ap (λ fs. Ok (12 ∷ document_bytes fs)) c.in-Ok.ensures.elements) c.blob_of.ensures.exact
