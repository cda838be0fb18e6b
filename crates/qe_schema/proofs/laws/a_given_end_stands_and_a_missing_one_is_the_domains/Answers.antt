use Rattle.qe_schema.proofs.ResolvedLemmas.{ends_are_given}
use Rattle.qe_schema.proofs.laws.a_given_end_stands_and_a_missing_one_is_the_domains.Goals as goal

pub returns : goal.returns
returns c = ends_are_given
