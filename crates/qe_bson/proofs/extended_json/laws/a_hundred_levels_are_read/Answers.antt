use Rattle.qe_bson.proofs.JsonDeepLemmas.{deep_value}
use Rattle.qe_bson.proofs.JsonLevelsLemmas.{value_within}
use Rattle.qe_bson.proofs.extended_json.laws.a_hundred_levels_are_read.Goals as goal

pub returns-clause-within : goal.returns-clause-within
returns-clause-within c = λ d v. value_within d 100 v

pub returns-clause-too_deep : goal.returns-clause-too_deep
returns-clause-too_deep c = λ d. deep_value d 100
