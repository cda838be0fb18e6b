use Rattle.std.proofs.Common.{◌≡◌, ◌++◌, drop}
use Rattle.qe_dump.specs.Dump.{contention_lines}
use Rattle.qe_dump.proofs.work.put_contentions.Given as goal

abbrev pub invariant-loop-field : goal.invariant-loop-field
invariant-loop-field l = record {
  so_far : l.out ++ contention_lines l.current l.number (drop l.field-index l.fields) ≡ l.fn.out ++ contention_lines l.current 0 l.fields;
  at : l.number ≡ l.field-index;
}
