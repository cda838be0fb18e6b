use Rattle.qe_value.specs.Limits.{most_levels}
use Rattle.qe_bson.proofs.JsonFormedLemmas.{value_formed}
use Rattle.qe_bson.proofs.extended_json.laws.what_is_read_has_a_form.Goals as goal

pub returns : goal.returns
returns c d v h = value_formed d most_levels v h
