use Rattle.std.proofs.Common.{◌≡◌, drop}
use Rattle.qe_protocol.specs.Contention.{cells_over}
use Rattle.qe_refusal.proofs.contention.cells_over.Given as goal

abbrev pub invariant-loop-field : goal.invariant-loop-field
invariant-loop-field l = cells_over l.current (drop l.field-index l.cells) ≡ cells_over l.current l.cells
