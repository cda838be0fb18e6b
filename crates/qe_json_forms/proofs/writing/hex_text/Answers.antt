use Rattle.std.proofs.Common.{arith}
use Rattle.qe_json_forms.proofs.RangeLemmas.{are_bytes-below}
use Rattle.qe_json_forms.proofs.writing.hex_text.Goals as goal

pub returns-clause-range : goal.returns-clause-range
returns-clause-range c = are_bytes-below c.args.bytes.now (λ i. omega (arith, c.type_inv.bytes i))
