use Rattle.std.proofs.Common.{rules, Result, Ok}
use Rattle.qe_base.specs.Answers.{Refuses}
use Rattle.qe_layout.specs.Refusal.{Refusal, refusal_of, Reads, bind}
use Rattle.qe_layout.specs.Layouts.{checked, complete, slots_of}
use Rattle.qe_layout.proofs.FillLemmas.{filled-both, arranged-ok, arranged-slots}
use Rattle.qe_layout.proofs.RowLemmas.{first_stops, refuses-bind}
use Rattle.qe_layout.proofs.layout.arrange.Goals as goal

pub returns-in_err-slots-clause-exact : goal.returns-in_err-slots-clause-exact
returns-in_err-slots-clause-exact g c =
    let reads = g.L.Layout.reads c.args.layout.now in
    let rows = g.L.Layout.rows c.args.layout.now in
    let elements = c.args.document in
    let slots = slots_of reads rows elements in
    let met : Reads c.from_residual.result (bind (checked reads elements) (λ _. Ok slots)) = search rules in
    first_stops c.from_residual.result (checked reads elements) slots (λ _. bind (complete rows elements) (λ _. Ok slots)) c.from_residual.ensures.0 met

pub returns-in_err-check_rows-clause-exact : goal.returns-in_err-check_rows-clause-exact
returns-in_err-check_rows-clause-exact g c =
    let reads = g.L.Layout.reads c.args.layout.now in
    let rows = g.L.Layout.rows c.args.layout.now in
    let elements = c.args.document in
    let both = filled-both (checked reads elements) (slots_of reads rows elements) c.in_ok-slots.slots c.in_ok-slots.ensures.exact in
    let due : Result (Unit {0}) Refusal = complete rows elements in
    let met : Refuses (refusal_of c.in_err-check_rows.field-0.0) (bind due (λ _. Ok (slots_of reads rows elements))) =
    refuses-bind c.in_err-check_rows.field-0.0 due (λ _. Ok (slots_of reads rows elements)) (c.in_err-check_rows.ensures elements both.1 both.0)
    in
    rw both.0 (search rules)

pub returns-clause-exact : goal.returns-clause-exact
returns-clause-exact g c =
    let reads = g.L.Layout.reads c.args.layout.now in
    let rows = g.L.Layout.rows c.args.layout.now in
    let elements = c.args.document in
    let slots = c.in_ok-slots.slots in
    let both = filled-both (checked reads elements) (slots_of reads rows elements) slots c.in_ok-slots.ensures.exact in
    arranged-ok reads rows elements slots both.0 (c.in_ok-check_rows.ensures elements both.1 both.0) both.1

pub returns-clause-slots : goal.returns-clause-slots
returns-clause-slots g c =
    arranged-slots (g.L.Layout.reads c.args.layout.now) (g.L.Layout.rows c.args.layout.now) c.args.document c.in_ok-slots.slots (returns-clause-exact g c)
