use Rattle.qe_field.proofs.SchemaLemmas.{read_as_schema}
use Rattle.qe_schema.proofs.laws.what_is_read_is_a_schema.Goals as goal

pub returns : goal.returns
returns c = read_as_schema
