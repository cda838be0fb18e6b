use Rattle.qe_bson.proofs.JsonFormlessLemmas.{json_of-unprintable, json_of-fault}
use Rattle.qe_bson.proofs.extended_json.laws.what_is_unprintable.Goals as goal

pub returns-clause-exactly : goal.returns-clause-exactly
returns-clause-exactly c = json_of-unprintable

pub returns-clause-alone : goal.returns-clause-alone
returns-clause-alone c = json_of-fault
