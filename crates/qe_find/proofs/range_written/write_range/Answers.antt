use Rattle.std.proofs.Common.{◌∷◌, subst}
use Rattle.qe_base.specs.Answers.{Answers}
use Rattle.qe_document.specs.Faults.{encode_refusal}
use Rattle.qe_document.specs.Spelling.{document_bytes}
use Rattle.qe_document.specs.Writing.{written_as}
use Rattle.qe_find.specs.Range.{written_range}
use Rattle.qe_find.proofs.range_written.write_range.Goals as goal

pub returns-in-Ok-clause-exact : goal.returns-in-Ok-clause-exact
unfolding written_range
returns-in-Ok-clause-exact c =
    subst (λ fs. Answers (λ blob. blob) encode_refusal c.blob_of.result (written_as fs (13 ∷ document_bytes fs))) c.in-Ok.ensures.elements c.blob_of.ensures.exact
