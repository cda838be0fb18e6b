use Rattle.std.proofs.Common.{◌≡◌, ◌∷◌, [], ◌++◌, ◌+◌, drop, sym, ap, ◌∙◌, rules}
use Rattle.std.proofs.lemmas.List.{drop_more, drop_all}
use Rattle.std.proofs.lemmas.Result.{err_from_is_err_and}
use Rattle.qe_opening.specs.Answer.{cell_of, cells_of}
use Rattle.qe_opening.proofs.FoundLemmas.{ahead-all, ahead-fault, ahead-nothing, ahead-one, refuses_on}
use Rattle.qe_opening.proofs.replies.read_cells.Goals as goal

pub loop-field-init : goal.loop-field-init
loop-field-init c = rw (c.new-cells.ensures) (ahead-nothing (cells_of c.args.keys.now c.args.stored.now))

pub returns-in_err-read : goal.returns-in_err-read
returns-in_err-read c =
    let keys = c.args.keys.now in
    let i = c.loop-field.field-index in
    let one = c.loop-field-item.result in
    let first : drop i c.args.stored.now ≡ one ∷ drop (i + 1) c.args.stored.now =
    drop_more c.args.stored.now i one c.loop-field-test.true ∙ ap (λ it. it ∷ drop (i + 1) c.args.stored.now) (sym c.loop-field-item.is) in
    let p = err_from_is_err_and c.from_residual.result c.from_residual.ensures.1 in
    rw (p.1, p.2)
    (refuses_on c.in_err-read.field-0.0 (cell_of keys one) (cells_of keys c.args.stored.now) c.in_err-read.ensures
    (λ refused. sym c.loop-field.invariant ∙ ahead-fault (cell_of keys) c.loop-field.cells _ _ one _ first refused))

pub loop-field-preserved : goal.loop-field-preserved
loop-field-preserved c =
    let keys = c.args.keys.now in
    let i = c.loop-field.field-index in
    let one = c.loop-field-item.result in
    let first : drop i c.args.stored.now ≡ one ∷ drop (i + 1) c.args.stored.now =
    drop_more c.args.stored.now i one c.loop-field-test.true ∙ ap (λ it. it ∷ drop (i + 1) c.args.stored.now) (sym c.loop-field-item.is) in
    let pushed : c.push.new.self ≡ c.loop-field.cells ++ c.in_ok-read.read ∷ [] = search rules in
    rw pushed (ahead-one (cell_of keys) c.loop-field.cells _ _ one c.in_ok-read.read first c.in_ok-read.ensures ∙ c.loop-field.invariant)

pub returns : goal.returns
returns c =
    sym c.loop-field.invariant
    ∙ ahead-all (cell_of c.args.keys.now) c.loop-field.cells _ (drop_all c.loop-field.field-index c.args.stored.now c.loop-field-test.false)
