use Rattle.std.proofs.Common.{◌≡◌, map, length, replicate, None}
use Rattle.qe_document.specs.Views.{field_view}
use Rattle.qe_layout.proofs.Pass.{filled}
use Rattle.qe_layout.proofs.layout.fill_all.Given as goal

-- what is left decides
abbrev pub invariant-loop-name : goal.invariant-loop-name
invariant-loop-name g l =
    filled (g.L.Layout.reads l.layout) (g.L.Layout.rows l.layout) l.fn.document (replicate (length (g.L.Layout.rows l.layout)) None)
    ≡ filled (g.L.Layout.reads l.layout) (g.L.Layout.rows l.layout) (map field_view l.name-iterator.rest.items) l.slots
