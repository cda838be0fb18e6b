use Rattle.std.proofs.Common.{ℕ, List, ap, ◌∙◌, subst}
use Rattle.qe_base.specs.declared.maintenance.Count.{Count}
use Rattle.qe_compact.specs.Parts.{parked}
use Rattle.qe_compact.specs.Answers.{IsPlanned}
use Rattle.qe_compact.proofs.StepLemmas.{steps_on, steps_wrong}
use Rattle.qe_compact.proofs.upkeep.Upkeep.step.Goals as goal

pub returns-in-Some-clause-replied : goal.returns-in-Some-clause-replied
returns-in-Some-clause-replied c =
    let rows = c.args.esc.now.rows in
    let planned = c.in_ok-draft.field-0 in
    let plan = subst (λ (start : List Count × List ℕ). IsPlanned c.args.nonces.now rows c.args.self.now start.0 start.1 planned)
    (λ i. (c.in_ok-copy.ensures i, c.in_ok-copy-2.ensures i)) c.in_ok-draft.ensures in
    steps_wrong c.args.nonces.now rows c.args.self.now c.args.counts.now c.args.opened.now planned plan c.keep.new.esc.rows c.abandon.new.self
    c.in_ok-keep.ensures.rows c.in-Some.field c.in-Some.is (c.abandon.ensures.parked ∙ ap parked c.in_ok-keep.ensures.jobs)

pub returns-clause-replied : goal.returns-clause-replied
returns-clause-replied c =
    let rows = c.args.esc.now.rows in
    let planned = c.in_ok-draft.field-0 in
    let plan = subst (λ (start : List Count × List ℕ). IsPlanned c.args.nonces.now rows c.args.self.now start.0 start.1 planned)
    (λ i. (c.in_ok-copy.ensures i, c.in_ok-copy-2.ensures i)) c.in_ok-draft.ensures in
    steps_on c.args.nonces.now rows c.args.self.now c.args.counts.now c.args.opened.now planned plan c.keep.new.esc.rows c.keep.new.self
    c.in_ok-keep.ensures.rows c.in-None.is c.in_ok-keep.ensures.jobs c.left.result c.left.ensures
