use Rattle.qe_schema.proofs.UnknownLemmas.{unknown_where_none}
use Rattle.qe_schema.proofs.laws.a_path_is_unknown_where_no_field_has_it.Goals as goal

pub returns : goal.returns
returns c = unknown_where_none
