use Rattle.qe_schema.proofs.ResolvedLemmas.{are_terms}
use Rattle.qe_schema.proofs.laws.resolved_terms_are_the_fields.Goals as goal

pub returns : goal.returns
returns c = are_terms
