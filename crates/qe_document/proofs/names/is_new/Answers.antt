use Rattle.std.proofs.Common.{◌≡◌, false, map, take, drop, ap, sym, ◌∙◌, arith}
use Rattle.std.proofs.lemmas.List.{length-map, take-map}
use Rattle.std.proofs.lemmas.Result.{IfOk-weaker}
use Rattle.qe_value.specs.Names.{is_named}
use Rattle.qe_value.specs.Views.{field_view}
use Rattle.qe_document.proofs.SetLemmas.{named_either, knows_push, knows_few}
use Rattle.qe_document.proofs.names.is_new.Goals as goal

pub returns-then-before-lt-FEW-clause-knows : goal.returns-then-before-lt-FEW-clause-knows
returns-then-before-lt-FEW-clause-knows c = λ value new.
    knows_few 16 _ (map field_view c.args.before.now) (c.args.name.now, value) (omega (arith, length-map c.args.before.now field_view, c.if-before-lt-FEW.true)) c.requires

pub returns-clause-new : goal.returns-clause-new
returns-clause-new c =
    let fields = map field_view c.args.before.now in
    let unseen : is_named c.args.name.now (take 16 fields) ≡ false = ap (is_named c.args.name.now) (take-map field_view 16 c.args.before.now) ∙ sym (rw c.split_at.ensures.front at c.has_name.ensures) ∙ c.if-has_name.false in
    rw (named_either 16 c.args.name.now fields, unseen) (c.add.ensures.new (drop 16 fields) c.requires)

pub returns-clause-knows : goal.returns-clause-knows
returns-clause-knows c = λ value.
    let fields = map field_view c.args.before.now in
    IfOk-weaker c.add.result _ _ (λ new known is_new. knows_push 16 _ fields (c.args.name.now, value) (omega (arith, length-map c.args.before.now field_view, c.if-before-lt-FEW.false)) known)
    (c.add.ensures.knows (drop 16 fields) value c.requires)
