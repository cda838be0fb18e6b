use Rattle.std.proofs.Common.{◌≡◌, ◌+◌, ◌≤◌, length, ap, sym, ◌∙◌, rules, arith, drop, Result, Ok}
use Rattle.qe_layout.specs.Refusal.{Refusal, Reads, bind}
use Rattle.qe_layout.specs.Layouts.{lack, in_slot}
use Rattle.qe_layout.proofs.Pass.{complete_in}
use Rattle.qe_layout.proofs.FillLemmas.{tells-complete}
use Rattle.qe_layout.proofs.RowLemmas.{stops, complete-next, complete-end}
use Rattle.qe_layout.proofs.layout.check_rows.Goals as goal

pub loop-place-preserved : goal.loop-place-preserved
loop-place-preserved g c =
    let rows = g.L.Layout.rows c.args.layout.now in
    let slots = c.args.slots.now in
    let i = c.loop-place.place in
    let name = c.row-need.result.0.now in
    let need = c.row-need.result.1 in
    let there : lack name need (in_slot slots i) ≡ Ok tt = rw (sym c.get.ensures) c.in_ok-check_row.ensures in
    c.loop-place.invariant ∙ complete-next rows slots i (name, need) c.row-need.ensures
    ∙ ap (λ first. bind first (λ _. complete_in (drop (i + 1) rows) (drop (i + 1) slots))) there

pub returns-in_err-check_row : goal.returns-in_err-check_row
returns-in_err-check_row g c = λ elements filled clean.
    let reads = g.L.Layout.reads c.args.layout.now in
    let rows = g.L.Layout.rows c.args.layout.now in
    let slots = c.args.slots.now in
    let i = c.loop-place.place in
    let name = c.row-need.result.0.now in
    let need = c.row-need.result.1 in
    let due : Result (Unit {0}) Refusal = lack name need (in_slot slots i) in
    let met : Reads c.from_residual.result due = rw (sym c.get.ensures) (search rules) in
    tells-complete reads rows slots elements c.from_residual.result filled clean (
    rw (c.loop-place.invariant ∙ complete-next rows slots i (name, need) c.row-need.ensures)
    (stops c.from_residual.result due (λ _. complete_in (drop (i + 1) rows) (drop (i + 1) slots)) c.from_residual.ensures.0 met)
    )

pub returns : goal.returns
returns g c = λ elements filled clean.
    let reads = g.L.Layout.reads c.args.layout.now in
    let rows = g.L.Layout.rows c.args.layout.now in
    let slots = c.args.slots.now in
    let past : length rows ≤ c.loop-place.place = omega (arith, c.loop-place-test.false, c.count-place-end.ensures) in
    tells-complete reads rows slots elements (Ok tt) filled clean (c.loop-place.invariant ∙ complete-end rows slots c.loop-place.place past)
