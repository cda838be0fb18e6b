use Rattle.std.proofs.Common.{◌≡◌, ◌++◌, take, flat_map}
use Rattle.qe_dump.specs.Dump.{entry_line}
use Rattle.qe_dump.proofs.rows.put_entries.Given as goal

abbrev pub invariant-loop-entry : goal.invariant-loop-entry
invariant-loop-entry l = l.out ≡ l.fn.out ++ flat_map (entry_line l.fields l.word) (take l.entry-index l.entries)
