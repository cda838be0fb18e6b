use Rattle.std.proofs.Common.{◌≡◌, drop}
use Rattle.qe_layout.proofs.Pass.{complete_in}
use Rattle.qe_layout.proofs.layout.check_rows.Given as goal

-- the rows before the place are there
abbrev pub invariant-loop-place : goal.invariant-loop-place
invariant-loop-place g l =
    complete_in (g.L.Layout.rows l.layout) l.slots ≡ complete_in (drop l.place (g.L.Layout.rows l.layout)) (drop l.place l.slots)
