use Rattle.std.proofs.lemmas.List.{map_push}
use Rattle.std.proofs.lemmas.Result.{err_from_is_err_and}
use Rattle.qe_value.proofs.NameLemmas.{Distinct-from_view}
use Rattle.serde_json.proofs.Views.{Entry}
use Rattle.qe_bson.proofs.JsonReadLemmas.{fails, items_go_on, items_fail, items_done, fields_go_on, fields_fail, fields_done, Distinct-rising}
use Rattle.qe_bson.proofs.extended_json.reading.+read.Goals as goal

pub items_of-returns-in_err-value_of : goal.items_of-returns-in_err-value_of
items_of-returns-in_err-value_of t c =
    let p = err_from_is_err_and c.from_residual.result c.from_residual.ensures.1 in
    rw (p.1, p.2, ← c.deref-item-items.ensures.value)
    (fails c.in_err-value_of.field-0.0 _ _ (λ f. items_fail _ _ _ _ _ c.loop-item.invariant c.item-item.result f c.loop-item-test.true c.item-item.is) c.in_err-value_of.ensures)

pub items_of-loop-item-preserved : goal.items_of-loop-item-preserved
items_of-loop-item-preserved t c =
    rw c.in_ok-push.ensures.ok
    (items_go_on _ _ _ _ _ c.loop-item.invariant c.item-item.result _ c.loop-item-test.true c.item-item.is c.in_ok-value_of.ensures)

pub items_of-returns : goal.items_of-returns
items_of-returns t c = rw (← c.deref-item-items.ensures.value) (items_done _ _ _ _ _ c.loop-item.invariant c.loop-item-test.false)

pub fields_of-returns-in_err-value : goal.fields_of-returns-in_err-value
fields_of-returns-in_err-value t c =
    let p = err_from_is_err_and c.from_residual.result c.from_residual.ensures.1 in
    let e : Entry = (c.in-Some.name.now, c.in-Some.member.now) in
    rw (p.1, p.2) (fails c.in_err-value.field-0.0 _ _ (λ f. fields_fail _ _ _ _ c.loop-name.invariant e _ f c.in-Some.ensures.steps) c.in_err-value.ensures)

pub fields_of-loop-name-preserved : goal.fields_of-loop-name-preserved
fields_of-loop-name-preserved t c =
    let e : Entry = (c.in-Some.name.now, c.in-Some.member.now) in
    rw (c.in_ok-push.ensures.items, map_push, c.in_ok-of.ensures, c.as_str.ensures.value)
    (fields_go_on _ _ _ _ c.loop-name.invariant e _ _ c.in-Some.ensures.steps c.in_ok-value.ensures)

pub fields_of-from_fields-requires : goal.fields_of-from_fields-requires
fields_of-from_fields-requires t c =
    Distinct-from_view c.loop-name.fields.items
    (Distinct-rising c.args.room c.args.members.now.entries _ c.iter-name-items.ensures.ordered (fields_done _ _ _ _ c.loop-name.invariant c.in-None.ensures.steps.0))

pub fields_of-returns : goal.fields_of-returns
fields_of-returns t c = rw c.from_fields.ensures (fields_done _ _ _ _ c.loop-name.invariant c.in-None.ensures.steps.0)
