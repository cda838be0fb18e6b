use Rattle.qe_meant.proofs.MeantLemmas.{command_meant}
use Rattle.qe_meant.proofs.script.a_command_is_meant.Goals as goal

pub returns : goal.returns
returns c = command_meant c.args.schema.now c.fields-fields.ensures.schema c.args.command.now c.requires.resolved c.requires.fitting c.command_held.ensures
