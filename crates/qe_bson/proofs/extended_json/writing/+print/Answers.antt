use Rattle.std.proofs.Common.{◌≡◌, true, map, subst, add-one, ◌≤◌, length, arith, ap, ◌∙◌}
use Rattle.std.proofs.lemmas.List.{map_push, take_all}
use Rattle.std.proofs.lemmas.Result.{err_from_is_err_and}
use Rattle.serde_json.proofs.Views.{view-Array, view-Object}
use Rattle.serde_json.specs.View.{view, members_view}
use Rattle.qe_document.specs.Falls.{size_of-Doc, size_of-Array}
use Rattle.qe_document.specs.Views.{plain, size_of}
use Rattle.qe_value.proofs.CountLemmas.{item_size}
use Rattle.qe_bson.specs.JsonReading.{then}
use Rattle.qe_bson.specs.JsonWriting.{array_data, object_data}
use Rattle.qe_bson.proofs.JsonPrintLemmas.{field_size, items_go_on, items_fail, items_done, fields_go_on, fields_fail, fields_done}
use Rattle.qe_bson.specs.JsonRound.{fields_typed, items_typed}
use Rattle.qe_bson.proofs.JsonReadLemmas.{fails}
use Rattle.qe_bson.proofs.JsonTypeLemmas.{items_typed-more, fields_typed-more}
use Rattle.qe_bson.proofs.extended_json.writing.+print.Goals as goal

pub value_json-document_json-requires : goal.value_json-document_json-requires
value_json-document_json-requires t c = (omega (arith, ap (λ w. size_of (plain w)) c.in-Doc.is ∙ size_of-Doc c.in-Doc.document), tt)

pub value_json-array_json-requires : goal.value_json-array_json-requires
value_json-array_json-requires t c = (omega (arith, ap (λ w. size_of (plain w)) c.in-Array.is ∙ size_of-Array c.in-Array.items), tt)

pub array_json-value_json-requires : goal.array_json-value_json-requires
array_json-value_json-requires t c =
    (omega (arith, rw c.slice-item-items.ensures at (item_size c.slice-item-items.result.now c.loop-item.item-index c.item-item.result c.loop-item-test.true c.item-item.is)), tt)

pub array_json-returns-in_err-value_json-clause-exact : goal.array_json-returns-in_err-value_json-clause-exact
array_json-returns-in_err-value_json-clause-exact t c =
    let p = err_from_is_err_and c.from_residual.result c.from_residual.ensures.1 in
    rw (p.1, p.2, ← c.slice-item-items.ensures)
    (fails c.in_err-value_json.field-0.0 _ _ (λ f e. ap (then array_data) (items_fail _ _ _ _ c.loop-item.invariant.so_far c.item-item.result f c.loop-item-test.true c.item-item.is e)) c.in_err-value_json.ensures.exact)

pub array_json-loop-item-preserved : goal.array_json-loop-item-preserved
array_json-loop-item-preserved t c = record {
  so_far = rw (c.in_ok-push.ensures.items, map_push) (items_go_on _ _ _ _ c.loop-item.invariant.so_far c.item-item.result (view c.in_ok-value_json.field-0) c.loop-item-test.true c.item-item.is c.in_ok-value_json.ensures.exact);
  typed = items_typed-more c.slice-item-items.result.now c.loop-item.item-index c.item-item.result c.loop-item-test.true c.item-item.is c.loop-item.invariant.typed c.in_ok-value_json.ensures.typed;
}

pub array_json-returns-clause-exact : goal.array_json-returns-clause-exact
array_json-returns-clause-exact t c = rw (view-Array c.loop-item.values, ← c.slice-item-items.ensures) (ap (then array_data) (items_done _ _ _ _ c.loop-item.invariant.so_far c.loop-item-test.false))

pub array_json-returns-clause-typed : goal.array_json-returns-clause-typed
array_json-returns-clause-typed t c = rw (← c.slice-item-items.ensures) (subst (λ l. items_typed (map plain l) ≡ true) (take_all _ _ c.loop-item-test.false) c.loop-item.invariant.typed)

pub document_json-value_json-requires : goal.document_json-value_json-requires
document_json-value_json-requires t c = (omega (arith, field_size c.args.document.now c.loop-i.i (plain c.value.result.now) c.value.ensures), tt)

pub document_json-returns-in_err-json-clause-exact : goal.document_json-returns-in_err-json-clause-exact
document_json-returns-in_err-json-clause-exact t c =
    let p = err_from_is_err_and c.from_residual.result c.from_residual.ensures.1 in
    rw (p.1, p.2)
    (fails c.in_err-json.field-0.0 _ _ (λ f e. ap (then object_data) (fields_fail (members_view c.loop-i.members.entries) c.args.document.now c.loop-i.i _ c.loop-i.invariant.so_far c.name-name.result.now c.value.result.now f c.name-name.ensures.name c.value.ensures e)) c.in_err-json.ensures.exact)

pub document_json-loop-i-preserved : goal.document_json-loop-i-preserved
document_json-loop-i-preserved t c = record {
  so_far = rw c.in_ok-put.ensures.ok (fields_go_on (members_view c.loop-i.members.entries) c.args.document.now c.loop-i.i _ c.loop-i.invariant.so_far c.name-name.result.now c.value.result.now (view c.in_ok-json.json) c.name-name.ensures.name c.value.ensures c.in_ok-json.ensures.exact);
  typed = rw add-one (fields_typed-more c.args.document.now c.loop-i.i c.value.result.now c.value.ensures c.loop-i.invariant.typed c.in_ok-json.ensures.typed);
}

pub document_json-returns-clause-exact : goal.document_json-returns-clause-exact
document_json-returns-clause-exact t c =
    let all : length c.args.document.now ≤ c.loop-i.i = omega (arith, c.len-i-end.ensures.count) in
    rw (view-Object c.loop-i.members) (ap (then object_data) (fields_done _ _ _ _ c.loop-i.invariant.so_far all))

pub document_json-returns-clause-typed : goal.document_json-returns-clause-typed
document_json-returns-clause-typed t c =
    let all : length c.args.document.now ≤ c.loop-i.i = omega (arith, c.len-i-end.ensures.count) in
    subst (λ l. fields_typed l ≡ true) (take_all _ _ all) c.loop-i.invariant.typed
