use Rattle.std.proofs.Common.{◌≡◌, drop}
use Rattle.qe_layout.specs.Layouts.{place_from}
use Rattle.qe_layout.proofs.layout.place_of.Given as goal

-- the rows before the place have other names
abbrev pub invariant-loop-place : goal.invariant-loop-place
invariant-loop-place g l = place_from l.name 0 (g.L.Layout.rows l.layout) ≡ place_from l.name l.place (drop l.place (g.L.Layout.rows l.layout))
