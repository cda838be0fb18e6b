use Rattle.qe_field.proofs.SchemaLemmas.{schema_answer}
use Rattle.qe_field.proofs.reading.read_fields.Goals as goal

pub returns-clause-schema : goal.returns-clause-schema
returns-clause-schema c = schema_answer c.args.document.now c.listed_fields.result c.listed_fields.ensures
