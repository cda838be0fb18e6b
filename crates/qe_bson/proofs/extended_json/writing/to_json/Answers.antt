use Rattle.qe_bson.proofs.JsonFloatLemmas.{no_float}
use Rattle.qe_bson.proofs.JsonPrintLemmas.{json_of-plain}
use Rattle.qe_bson.proofs.JsonTypeLemmas.{again}
use Rattle.qe_bson.proofs.extended_json.writing.to_json.Goals as goal

pub returns-clause-exact : goal.returns-clause-exact
returns-clause-exact c = rw (json_of-plain c.args.value.now) c.value_json.ensures.exact

pub returns-clause-text : goal.returns-clause-text
returns-clause-text c = no_float c.value_json.result c.args.value.now c.value_json.ensures.exact

pub returns-clause-again : goal.returns-clause-again
returns-clause-again c = again c.value_json.result c.args.value.now c.value_json.ensures.exact c.value_json.ensures.typed
