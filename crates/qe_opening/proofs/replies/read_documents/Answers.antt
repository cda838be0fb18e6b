use Rattle.std.proofs.Common.{◌≡◌, ◌∷◌, [], ◌++◌, ◌+◌, drop, sym, ap, ◌∙◌, rules}
use Rattle.std.proofs.lemmas.List.{drop_more, drop_all}
use Rattle.std.proofs.lemmas.Result.{err_from_is_err_and}
use Rattle.qe_opening.specs.Answer.{document_of, documents_of}
use Rattle.qe_opening.proofs.FoundLemmas.{ahead-all, ahead-fault, ahead-nothing, ahead-one, refuses_on}
use Rattle.qe_opening.proofs.replies.read_documents.Goals as goal

pub loop-row-init : goal.loop-row-init
loop-row-init c = rw (c.new-documents.ensures) (ahead-nothing (documents_of c.args.keys.now c.args.rows.now))

pub returns-in_err-read : goal.returns-in_err-read
returns-in_err-read c =
    let keys = c.args.keys.now in
    let i = c.loop-row.row-index in
    let one = c.row-item.result in
    let first : drop i c.args.rows.now ≡ one ∷ drop (i + 1) c.args.rows.now =
    drop_more c.args.rows.now i one c.loop-row-test.true ∙ ap (λ it. it ∷ drop (i + 1) c.args.rows.now) (sym c.row-item.is) in
    let p = err_from_is_err_and c.from_residual.result c.from_residual.ensures.1 in
    rw (p.1, p.2)
    (refuses_on c.in_err-read.field-0.0 (document_of keys one) (documents_of keys c.args.rows.now) c.in_err-read.ensures
    (λ refused. sym c.loop-row.invariant ∙ ahead-fault (document_of keys) c.loop-row.documents _ _ one _ first refused))

pub loop-row-preserved : goal.loop-row-preserved
loop-row-preserved c =
    let keys = c.args.keys.now in
    let i = c.loop-row.row-index in
    let one = c.row-item.result in
    let first : drop i c.args.rows.now ≡ one ∷ drop (i + 1) c.args.rows.now =
    drop_more c.args.rows.now i one c.loop-row-test.true ∙ ap (λ it. it ∷ drop (i + 1) c.args.rows.now) (sym c.row-item.is) in
    let pushed : c.push.new.self ≡ c.loop-row.documents ++ c.in_ok-read.read ∷ [] = search rules in
    rw pushed (ahead-one (document_of keys) c.loop-row.documents _ _ one c.in_ok-read.read first c.in_ok-read.ensures ∙ c.loop-row.invariant)

pub returns : goal.returns
returns c =
    sym c.loop-row.invariant
    ∙ ahead-all (document_of c.args.keys.now) c.loop-row.documents _ (drop_all c.loop-row.row-index c.args.rows.now c.loop-row-test.false)
