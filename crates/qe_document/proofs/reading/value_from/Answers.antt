use Rattle.std.proofs.Common.{subst, arith}
use Rattle.qe_base.specs.Answers.{Answers}
use Rattle.qe_value.specs.Faults.{bson_refusal}
use Rattle.qe_value.specs.Views.{plain}
use Rattle.qe_value.proofs.AloneLemmas.{is_found_alone, alone_again}
use Rattle.qe_document.proofs.AgainLemmas.{read_again}
use Rattle.qe_document.proofs.reading.value_from.Goals as goal

pub returns-clause-found : goal.returns-clause-found
returns-clause-found c = is_found_alone c.args.kind c.args.bytes.now c.typed.result (λ i. omega (arith, c.type_inv.bytes i)) c.typed.ensures

pub returns-clause-only : goal.returns-clause-only
returns-clause-only c = λ v is. subst (λ read. Answers plain bson_refusal c.typed.result read) (alone_again c.args.kind c.args.bytes.now v is) c.typed.ensures

pub returns-clause-again : goal.returns-clause-again
returns-clause-again c = read_again c.args.kind c.args.bytes.now c.typed.result (returns-clause-found c)
