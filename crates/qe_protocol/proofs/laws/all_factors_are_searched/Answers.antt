use Rattle.qe_protocol.proofs.SearchLemmas.{searches_all}
use Rattle.qe_protocol.proofs.laws.all_factors_are_searched.Goals as goal

pub returns : goal.returns
returns c = searches_all
