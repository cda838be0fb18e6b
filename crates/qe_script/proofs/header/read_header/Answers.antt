use Rattle.qe_script.proofs.ReadLemmas.{header_is}
use Rattle.qe_script.proofs.header.read_header.Goals as goal

pub returns-in-Ok-clause-fits : goal.returns-in-Ok-clause-fits
returns-in-Ok-clause-fits c = header_is c.what_is_read_is_a_schema.ensures c.args.bytes.now c.in-Ok.header c.in-Ok.ensures
