use Rattle.std.proofs.Common.{arith, sym, ◌∙◌}
use Rattle.std.proofs.lemmas.List.{map_push}
use Rattle.std.proofs.lemmas.Result.{err_from_is_err_and}
use Rattle.qe_value.specs.Views.{plain, field_view}
use Rattle.qe_document.proofs.LoopLemmas.{goes_on, is_done, fails, runs_out}
use Rattle.qe_value.proofs.NameLemmas.{is_named-view, Distinct-push}
use Rattle.qe_document.proofs.reading.+read.Goals as goal

pub fields_of-returns-in_err-field_of : goal.fields_of-returns-in_err-field_of
fields_of-returns-in_err-field_of t c =
    let p = err_from_is_err_and c.from_residual.result c.from_residual.ensures.1 in
    rw (p.1, p.2) (fails _ _ _ _ _ _ _ c.loop.invariant.so_far c.in_err-field_of.field-0.0 c.loop-test.true (rw c.deref.ensures.value at c.in_err-field_of.ensures.exact))

pub fields_of-returns-in-None : goal.fields_of-returns-in-None
fields_of-returns-in-None t c =
    rw c.from_fields.ensures (is_done _ _ _ _ _ _ _ c.loop.invariant.so_far c.loop-test.true (rw (c.deref.ensures.value, c.in-None.is) at c.in_ok-field_of.ensures.exact))

pub fields_of-loop-preserved : goal.fields_of-loop-preserved
fields_of-loop-preserved t c = record {
  so_far = rw (c.in_ok-push-in-Some.ensures.items, map_push) (goes_on _ _ _ _ _ _ _ c.loop.invariant.so_far (field_view c.in-Some.field) c.in-Some.after.now c.loop-test.true (rw (c.deref.ensures.value, c.in-Some.is) at c.in_ok-field_of.ensures.exact));
  distinct = rw (c.in_ok-push-in-Some.ensures.items) (Distinct-push c.loop.fields.items c.in-Some.field c.loop.invariant.distinct (sym (is_named-view _ c.loop.fields.items) ∙ (rw (c.deref.ensures.value, c.in-Some.is) at c.in_ok-field_of.ensures.new)));
  knows = rw (c.in_ok-push-in-Some.ensures.items, map_push) (rw (c.deref.ensures.value, c.in-Some.is) at c.in_ok-field_of.ensures.knows);
}

pub fields_of-returns : goal.fields_of-returns
fields_of-returns t c = runs_out _ _ _ _ _ _ _ c.loop.invariant.so_far c.loop-test.false

pub items_of-returns-in_err-item_of : goal.items_of-returns-in_err-item_of
items_of-returns-in_err-item_of t c =
    let p = err_from_is_err_and c.from_residual.result c.from_residual.ensures.1 in
    rw (p.1, p.2) (fails _ _ _ _ _ _ _ c.loop.invariant c.in_err-item_of.field-0.0 c.loop-test.true (c.in_err-item_of.ensures c.loop.items (grind arith)))

pub items_of-returns-in-None : goal.items_of-returns-in-None
items_of-returns-in-None t c =
    is_done _ _ _ _ _ _ _ c.loop.invariant c.loop-test.true (rw c.in-None.is at c.in_ok-item_of.ensures c.loop.items (grind arith))

pub items_of-loop-preserved : goal.items_of-loop-preserved
items_of-loop-preserved t c =
    rw c.in_ok-push-in-Some.ensures.ok (goes_on _ _ _ _ _ _ _ c.loop.invariant (plain c.in-Some.item) c.in-Some.after.now c.loop-test.true (rw c.in-Some.is at c.in_ok-item_of.ensures c.loop.items (grind arith)))

pub items_of-returns : goal.items_of-returns
items_of-returns t c = runs_out _ _ _ _ _ _ _ c.loop.invariant c.loop-test.false
