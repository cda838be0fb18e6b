use Rattle.qe_script.proofs.ReadLemmas.{line_is}
use Rattle.qe_script.proofs.line.read_line.Goals as goal

pub returns-in-Ok-clause-fits : goal.returns-in-Ok-clause-fits
returns-in-Ok-clause-fits c = λ some. line_is c.args.header.now c.args.bytes.now c.in-Ok.found some c.in-Ok.ensures
