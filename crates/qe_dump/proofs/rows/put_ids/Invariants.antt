use Rattle.std.proofs.Common.{◌≡◌, ◌++◌, take, flat_map}
use Rattle.qe_dump.specs.Dump.{id_line}
use Rattle.qe_dump.proofs.rows.put_ids.Given as goal

abbrev pub invariant-loop-id : goal.invariant-loop-id
invariant-loop-id l = l.out ≡ l.fn.out ++ flat_map (id_line l.word) (take l.id-index l.ids)
