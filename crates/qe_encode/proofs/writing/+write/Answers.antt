use Rattle.std.proofs.Common.{◌≡◌, ◌+◌, ◌∷◌, [], length, ap, ◌∙◌, arith}
use Rattle.std.proofs.lemmas.List.{length-append}
use Rattle.std.proofs.lemmas.Result.{err_from_is_err_and}
use Rattle.qe_value.specs.Falls.{size_of-Doc, size_of-Array}
use Rattle.qe_value.specs.Views.{plain, size_of}
use Rattle.qe_value.proofs.CountLemmas.{item_size, field_size}
use Rattle.qe_encode.proofs.WriteLemmas.{fields_go_on, items_go_on, field_refuses, item_refuses}
use Rattle.qe_encode.proofs.writing.+write.Goals as goal

pub put_value-put_document-requires : goal.put_value-put_document-requires
put_value-put_document-requires t c = (omega (arith, ap (λ w. size_of (plain w)) c.in-Doc.is ∙ size_of-Doc c.in-Doc.document), tt)

pub put_value-put_array-requires : goal.put_value-put_array-requires
put_value-put_array-requires t c = (omega (arith, ap (λ w. size_of (plain w)) c.in-Array.is ∙ size_of-Array c.in-Array.items), tt)

pub put_array-put_element-requires : goal.put_array-put_element-requires
put_array-put_element-requires t c =
    (omega (arith, rw c.slice-item-items.ensures at (item_size c.slice-item-items.result.now c.loop-i.i c.item-item.result c.loop-i-test.true c.item-item.is)), tt)

pub put_document-put_element-requires : goal.put_document-put_element-requires
put_document-put_element-requires t c =
    (omega (arith, rw c.slice-name-items.ensures at (field_size c.slice-name-items.result.now c.loop-name.name-index c.loop-name-item.result c.loop-name-test.true c.loop-name-item.is)), tt)

pub put_array-returns-in_err-put_element : goal.put_array-returns-in_err-put_element
put_array-returns-in_err-put_element t c =
    let p = err_from_is_err_and c.from_residual-in_err-put_element.result c.from_residual-in_err-put_element.ensures.1 in
    let began : length c.put.new.out.items ≡ length c.args.out.now.items + 4 = ap (λ b. length b) c.in_ok-put.ensures.0 ∙ length-append c.args.out.now.items (0 ∷ 0 ∷ 0 ∷ 0 ∷ []) in
    rw (p.1, p.2, ← c.slice-item-items.ensures)
    (item_refuses c.args.limit c.in_err-put_element.field-0.0 c.args.out.now.items c.put.new.out.items c.loop-i.out.items c.put_element.new.out.items c.put_element.new.out.items c.slice-item-items.result.now c.loop-i.i c.item-item.result
    c.loop-i-test.true c.item-item.is began c.loop-i.invariant.whole (rw c.format.ensures.text at c.in_err-put_element.ensures))

pub put_array-loop-i-preserved : goal.put_array-loop-i-preserved
put_array-loop-i-preserved t c = record {
  whole = items_go_on _ c.loop-i.out.items _ c.slice-item-items.result.now c.loop-i.i c.item-item.result c.loop-i-test.true c.item-item.is c.loop-i.invariant.whole (rw c.format.ensures.text at c.in_ok-put_element.ensures.0);
  small = c.in_ok-put_element.ensures.1;
}

pub put_document-returns-in_err-put_element : goal.put_document-returns-in_err-put_element
put_document-returns-in_err-put_element t c =
    let p = err_from_is_err_and c.from_residual-in_err-put_element.result c.from_residual-in_err-put_element.ensures.1 in
    let began : length c.put.new.out.items ≡ length c.args.out.now.items + 4 = ap (λ b. length b) c.in_ok-put.ensures.0 ∙ length-append c.args.out.now.items (0 ∷ 0 ∷ 0 ∷ 0 ∷ []) in
    rw (p.1, p.2, ← c.slice-name-items.ensures)
    (field_refuses c.args.limit c.in_err-put_element.field-0.0 c.args.out.now.items c.put.new.out.items c.loop-name.out.items c.put_element.new.out.items c.put_element.new.out.items c.slice-name-items.result.now c.loop-name.name-index c.loop-name-item.result
    c.loop-name-test.true c.loop-name-item.is began c.loop-name.invariant.whole (rw c.as_str.ensures.value at c.in_err-put_element.ensures))

pub put_document-loop-name-preserved : goal.put_document-loop-name-preserved
put_document-loop-name-preserved t c = record {
  whole = fields_go_on _ c.loop-name.out.items _ c.slice-name-items.result.now c.loop-name.name-index c.loop-name-item.result c.loop-name-test.true c.loop-name-item.is c.loop-name.invariant.whole (rw c.as_str.ensures.value at c.in_ok-put_element.ensures.0);
  small = c.in_ok-put_element.ensures.1;
}
