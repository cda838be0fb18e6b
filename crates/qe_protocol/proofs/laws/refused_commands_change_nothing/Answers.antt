use Rattle.qe_protocol.proofs.QuietLemmas.{next-quiet}
use Rattle.qe_protocol.proofs.laws.refused_commands_change_nothing.Goals as goal

pub returns : goal.returns
returns c = next-quiet
