use Rattle.std.proofs.Common.{sym}
use Rattle.qe_schema.proofs.KeyLemmas.{all_apart}
use Rattle.qe_schema.proofs.keys.Keys.new.Goals as goal

pub invariant_of-result : goal.invariant_of-result
invariant_of-result c = all_apart c.slice.result.now c.args.keys (rw c.slice-2.ensures at (sym c.in-None.ensures))
