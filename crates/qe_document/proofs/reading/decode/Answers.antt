use Rattle.std.proofs.Common.{subst, arith}
use Rattle.qe_base.specs.Answers.{Answers}
use Rattle.qe_value.specs.Faults.{bson_refusal}
use Rattle.qe_value.proofs.DocumentLemmas.{is_found, begins_again}
use Rattle.qe_document.proofs.AgainLemmas.{decoded_again}
use Rattle.qe_document.proofs.reading.decode.Goals as goal

pub returns-clause-found : goal.returns-clause-found
returns-clause-found c = is_found c.args.bytes.now c.document.result (λ i. omega (arith, c.type_inv.bytes i)) c.document.ensures

pub returns-clause-only : goal.returns-clause-only
returns-clause-only c = λ fields n begins. subst (λ read. Answers (λ x. x) bson_refusal c.document.result read) (begins_again c.args.bytes.now fields n begins) c.document.ensures

pub returns-clause-again : goal.returns-clause-again
returns-clause-again c = decoded_again c.args.bytes.now c.document.result (returns-clause-found c)
