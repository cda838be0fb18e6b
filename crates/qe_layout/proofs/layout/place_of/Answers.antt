use Rattle.std.proofs.Common.{◌≡◌, ◌+◌, sym, ◌∙◌, rules, true, false, Some, drop}
use Rattle.std.specs.Prelude.{bytes_eq}
use Rattle.std.proofs.lemmas.Bool.{cond-true, cond-false}
use Rattle.qe_layout.specs.Layouts.{place_from}
use Rattle.qe_layout.proofs.RowLemmas.{place-next}
use Rattle.qe_layout.proofs.layout.place_of.Goals as goal

pub returns-then-eq : goal.returns-then-eq
returns-then-eq g c =
    let rows = g.L.Layout.rows c.args.layout.now in
    let name = c.args.name.now in
    let i = c.loop-place.place in
    let other = c.row.result.0.now in
    let same : bytes_eq name other ≡ true = search rules in
    sym (c.loop-place.invariant ∙ place-next name rows i (other, c.row.result.1) c.row.ensures
    ∙ cond-true (bytes_eq name other) (Some i) (place_from name (i + 1) (drop (i + 1) rows)) same)

pub loop-place-preserved : goal.loop-place-preserved
loop-place-preserved g c =
    let rows = g.L.Layout.rows c.args.layout.now in
    let name = c.args.name.now in
    let i = c.loop-place.place in
    let other = c.row.result.0.now in
    let differs : bytes_eq name other ≡ false = search rules in
    c.loop-place.invariant ∙ place-next name rows i (other, c.row.result.1) c.row.ensures
    ∙ cond-false (bytes_eq name other) (Some i) (place_from name (i + 1) (drop (i + 1) rows)) differs
