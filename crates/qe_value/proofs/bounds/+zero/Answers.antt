use Rattle.std.proofs.Common.{◌≡◌, false, map, sym, ap, ◌∙◌, arith}
use Rattle.std.proofs.lemmas.List.{drop_all}
use Rattle.qe_value.specs.Spelling.{FieldsFit, ItemsFit}
use Rattle.qe_value.specs.Views.{plain, field_view}
use Rattle.qe_value.specs.Measures.{holds_zero, zero_in}
use Rattle.qe_value.proofs.DepthLemmas.{depth-Doc, depth-Array, zero_in-Doc, zero_in-Array, zero_leaf, leaf_fits, next, fields_fit, items_fit}
use Rattle.qe_value.proofs.NameLemmas.{Distinct-view}
use Rattle.qe_value.proofs.PlainLemmas as tree
use Rattle.qe_value.proofs.bounds.+zero.Goals as goal

pub value_has_zero-returns-in-Doc-clause-zero : goal.value_has_zero-returns-in-Doc-clause-zero
value_has_zero-returns-in-Doc-clause-zero t c = rw (c.in-Doc.is, zero_in-Doc c.in-Doc.document) c.has_zero.ensures.zero

pub value_has_zero-returns-in-Doc-clause-fits : goal.value_has_zero-returns-in-Doc-clause-fits
value_has_zero-returns-in-Doc-clause-fits t c = λ room deep none.
    rw (c.in-Doc.is, tree.out-Doc c.in-Doc.document) (c.has_zero.ensures.fits room (rw (c.in-Doc.is, depth-Doc c.in-Doc.document) at deep) none)

pub value_has_zero-returns-in-Array-clause-zero : goal.value_has_zero-returns-in-Array-clause-zero
value_has_zero-returns-in-Array-clause-zero t c = rw (c.in-Array.is, zero_in-Array c.in-Array.items) c.array_has_zero.ensures.zero

pub value_has_zero-returns-in-Array-clause-fits : goal.value_has_zero-returns-in-Array-clause-fits
value_has_zero-returns-in-Array-clause-fits t c = λ room deep none.
    rw (c.in-Array.is, tree.out-Array c.in-Array.items) (c.array_has_zero.ensures.fits room (rw (c.in-Array.is, depth-Array c.in-Array.items) at deep) none)

pub value_has_zero-returns-in_default : goal.value_has_zero-returns-in_default
value_has_zero-returns-in_default t c = record {
  zero = sym (zero_leaf c.args.value.now (λ fs. c.in_default.not-Doc fs) (λ vs. c.in_default.not-Array vs));
  fits = λ room deep none. leaf_fits (FieldsFit room) (ItemsFit room) c.args.value.now (λ fs. c.in_default.not-Doc fs) (λ vs. c.in_default.not-Array vs) c.fits_by_type.ensures;
}

pub has_zero-loop-name-preserved : goal.has_zero-loop-name-preserved
has_zero-loop-name-preserved t c =
    let f = c.loop-name-item.result in
    let left = next c.deref-name-items.result.now c.loop-name.name-index f c.loop-name-test.true c.loop-name-item.is in
    let name_clear : holds_zero f.0 ≡ false = sym (rw c.as_str.ensures.value at c.name_holds_zero.ensures) ∙ c.if-name_holds_zero.false in
    let value_clear : zero_in (plain f.1) ≡ false = sym c.value_has_zero.ensures.zero ∙ c.if-value_has_zero.false in
    let deep = rw left at c.loop-name.invariant.deep in
    record {
      zero = rw (left, name_clear, value_clear) at c.loop-name.invariant.zero;
      deep = omega (arith, deep);
      fits = λ room bound rest. c.loop-name.invariant.fits room bound
          (rw left ((record { utf8 = c.as_str.ensures.utf8; no_zero = name_clear }, c.value_has_zero.ensures.fits room (omega (arith, deep)) c.if-value_has_zero.false), rest));
    }

pub has_zero-returns-clause-fits : goal.has_zero-returns-clause-fits
has_zero-returns-clause-fits t c = λ room deep none.
    let items = c.deref-name-items.result.now in
    let seen : map field_view items ≡ c.args.document.now = ap (λ fs. map field_view fs) c.deref-name-items.ensures.value ∙ c.document.view_is in
    rw (← seen) (fields_fit room (map field_view items) (Distinct-view items (rw c.deref-name-items.ensures.value c.document.invariant.0)) (rw (← seen) at deep)
    (λ r bound. c.loop-name.invariant.fits r bound (rw (drop_all c.loop-name.name-index items c.loop-name-test.false) tt)))

pub array_has_zero-loop-item-preserved : goal.array_has_zero-loop-item-preserved
array_has_zero-loop-item-preserved t c =
    let x = c.item-item.result in
    let left = next c.deref-item-items.result.now c.loop-item.item-index x c.loop-item-test.true c.item-item.is in
    let value_clear : zero_in (plain x) ≡ false = sym c.value_has_zero.ensures.zero ∙ c.if-value_has_zero.false in
    let deep = rw left at c.loop-item.invariant.deep in
    record {
      zero = rw (left, value_clear) at c.loop-item.invariant.zero;
      deep = omega (arith, deep);
      fits = λ room bound rest. c.loop-item.invariant.fits room bound (rw left (c.value_has_zero.ensures.fits room (omega (arith, deep)) c.if-value_has_zero.false, rest));
    }

pub array_has_zero-returns-clause-fits : goal.array_has_zero-returns-clause-fits
array_has_zero-returns-clause-fits t c = λ room deep none.
    let items = c.deref-item-items.result.now in
    let seen : map plain items ≡ c.args.values.now = ap (λ vs. map plain vs) c.deref-item-items.ensures.value ∙ c.values.view_is in
    rw (← seen) (items_fit room (map plain items) (rw (← seen) at deep) (λ r bound. c.loop-item.invariant.fits r bound (rw (drop_all c.loop-item.item-index items c.loop-item-test.false) tt)))
