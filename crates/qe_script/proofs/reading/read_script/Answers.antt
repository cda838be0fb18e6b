use Rattle.qe_script.proofs.ReadLemmas.{script_answer}
use Rattle.qe_script.proofs.reading.read_script.Goals as goal

pub returns-clause-fits : goal.returns-clause-fits
returns-clause-fits c = script_answer c.what_is_read_is_a_schema.ensures _ c.args.bytes.now c.script_of.ensures
