use Rattle.qe_schema.proofs.CommandLemmas.{holds_what_is_allowed}
use Rattle.qe_schema.proofs.laws.a_resolved_command_holds_what_is_allowed.Goals as goal

pub returns : goal.returns
returns c = holds_what_is_allowed
