use Rattle.qe_schema.proofs.CommandLemmas.{allowed_answer}
use Rattle.qe_schema.proofs.schema.Schema.resolve.Goals as goal

pub returns-clause-allowed : goal.returns-clause-allowed
returns-clause-allowed c = allowed_answer c.args.self.now c.args.raw.now c.resolved.result (rw c.fields.ensures.all at c.resolved.ensures)
