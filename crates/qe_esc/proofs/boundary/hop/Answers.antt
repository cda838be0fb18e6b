use Rattle.std.proofs.Common.{◌+◌, ◌*◌, ◌/◌, ◌-◌, ◌≡◌, sym, ◌∙◌, subst, inl, inr, refl, arith}
use Rattle.qe_esc.specs.Identifiers.{row_after}
use Rattle.qe_esc.proofs.BoundaryLemmas.{Doubling, Halving, doubling_more, at_limit, halving_begins, halving_up, halving_down, halving_spent}
use Rattle.qe_esc.proofs.boundary.hop.Goals as goal
use Rattle.qe_esc.proofs.boundary.hop.Goals.{then-loop-high-test+else-is_there, else-loop-high-test}

pub loop-high-preserved : goal.loop-high-preserved
loop-high-preserved g c =
    let there = row_after (g.V.RowView.rows c.args.rows.now) c.args.kind c.args.key.now c.args.start in
    let start = c.args.steps.now in
    let d = c.loop-high in
    subst (λ now. Doubling there start now d.high (d.high * 2)) (sym c.is_there.ensures.step)
    (doubling_more there start d.steps d.low d.high d.invariant c.loop-high-test.true (sym c.is_there.ensures.there ∙ c.if-is_there.true))

pub loop-high-2-init : goal.loop-high-2-init
loop-high-2-init g c =
    let there = row_after (g.V.RowView.rows c.args.rows.now) c.args.kind c.args.key.now c.args.start in
    let start = c.args.steps.now in
    let d = c.loop-high in
    elim c.loop-high-test.branch [
      | then-loop-high-test+else-is_there w ↦ subst (λ now. Halving there start now d.low d.high) (sym (w.steps-is ∙ w.is_there.ensures.step))
          (halving_begins there start d.steps d.low d.high 1 d.invariant (omega arith) (inl (sym w.is_there.ensures.there ∙ w.if-is_there.false)))
      | else-loop-high-test w ↦ let same : d.steps + 0 ≡ c.loop-high-test.steps = omega (arith, w.steps-is) in subst (λ now. Halving there start now d.low d.high) same
          (halving_begins there start d.steps d.low d.high 0 d.invariant (omega arith) (inr (at_limit there start d.steps d.low d.high d.invariant w.loop-high-test.false)))
    ]

pub loop-high-2-preserved-then-is_there-2 : goal.loop-high-2-preserved-then-is_there-2
loop-high-2-preserved-then-is_there-2 g c =
    let there = row_after (g.V.RowView.rows c.args.rows.now) c.args.kind c.args.key.now c.args.start in
    let start = c.args.steps.now in
    let h = c.loop-high-2 in
    let middle = h.low + (h.high - h.low) / 2 in
    let probe = c.is_there-in-loop-high-2 in
    subst (λ now. Halving there start now middle h.high) (sym probe.ensures.step)
    (halving_up there start h.steps h.low h.high middle h.invariant c.loop-high-2-test.true refl (sym probe.ensures.there ∙ c.if-is_there-2.true))

pub loop-high-2-preserved : goal.loop-high-2-preserved
loop-high-2-preserved g c =
    let there = row_after (g.V.RowView.rows c.args.rows.now) c.args.kind c.args.key.now c.args.start in
    let start = c.args.steps.now in
    let h = c.loop-high-2 in
    let middle = h.low + (h.high - h.low) / 2 in
    let probe = c.is_there-in-loop-high-2 in
    subst (λ now. Halving there start now h.low middle) (sym probe.ensures.step)
    (halving_down there start h.steps h.low h.high middle h.invariant c.loop-high-2-test.true refl (sym probe.ensures.there ∙ c.if-is_there-2.false))

pub returns-clause-probes : goal.returns-clause-probes
returns-clause-probes g c =
    let there = row_after (g.V.RowView.rows c.args.rows.now) c.args.kind c.args.key.now c.args.start in
    let h = c.loop-high-2 in
    halving_spent there c.args.steps.now h.steps h.low h.high h.invariant c.loop-high-2-test.false
