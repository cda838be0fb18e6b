use Rattle.std.proofs.Common.{◌≡◌, ◌++◌, take, flat_map}
use Rattle.qe_dump.specs.Dump.{row_line}
use Rattle.qe_dump.proofs.rows.put_rows.Given as goal

abbrev pub invariant-loop-id : goal.invariant-loop-id
invariant-loop-id l = l.out ≡ l.fn.out ++ flat_map row_line (take l.id-index l.rows)
