use Rattle.std.proofs.Common.{◌≡◌, length, map, ap, sym, ◌∙◌, refl, true≢false, arith}
use Rattle.std.proofs.lemmas.List.{take_all}
use Rattle.qe_value.specs.Views.{plain, field_view}
use Rattle.qe_value.proofs.EqualLemmas.{same_next, same_at, plain_one, names_equal, names_differ}
use Rattle.qe_value.proofs.equal.+equal.Goals as goal

pub is_same_document-returns-then-ne : goal.is_same_document-returns-then-ne
is_same_document-returns-then-ne t c =
    let ones = c.deref-field-items.result.now in
    let others = c.other.inside.fields.items in
    let count : length ones ≡ length others = omega (arith, c.deref-field-items.ensures.len, c.len.ensures, c.if-len.false, c.len-2.ensures, c.other.inside.fields.ok) in (
      λ is. absurd (true≢false (sym is)),
      λ same.
          let seen : map field_view ones ≡ map field_view others = ap (λ fs. map field_view fs) c.deref-field-items.ensures.value ∙ c.one.view_is ∙ same ∙ sym c.other.view_is in
          let at = same_at field_view ones others c.loop-i.i c.field-item.result c.index.result.now c.loop-i-test.true (omega (arith, count, c.loop-i-test.true)) c.field-item.is c.index.ensures seen in
          absurd (names_differ c.ne.result c.as_str.result.now c.as_str-in-loop-i.result.now _ _ c.ne.ensures c.if-ne.true c.as_str.ensures.value c.as_str-in-loop-i.ensures.value (ap (λ f. f.0) at)),
    )

pub is_same_document-returns-then-not-is_same : goal.is_same_document-returns-then-not-is_same
is_same_document-returns-then-not-is_same t c =
    let ones = c.deref-field-items.result.now in
    let others = c.other.inside.fields.items in
    let count : length ones ≡ length others = omega (arith, c.deref-field-items.ensures.len, c.len.ensures, c.if-len.false, c.len-2.ensures, c.other.inside.fields.ok) in (
      λ is. absurd (true≢false (sym is)),
      λ same.
          let seen : map field_view ones ≡ map field_view others = ap (λ fs. map field_view fs) c.deref-field-items.ensures.value ∙ c.one.view_is ∙ same ∙ sym c.other.view_is in
          let at = same_at field_view ones others c.loop-i.i c.field-item.result c.index.result.now c.loop-i-test.true (omega (arith, count, c.loop-i-test.true)) c.field-item.is c.index.ensures seen in
          absurd (true≢false (sym (c.is_same.ensures.1 (plain_one _ _ (ap (λ f. f.1) at))) ∙ c.if-not-is_same.true)),
    )

pub is_same_document-loop-i-preserved : goal.is_same_document-loop-i-preserved
is_same_document-loop-i-preserved t c =
    let ones = c.deref-field-items.result.now in
    let others = c.other.inside.fields.items in
    let count : length ones ≡ length others = omega (arith, c.deref-field-items.ensures.len, c.len.ensures, c.if-len.false, c.len-2.ensures, c.other.inside.fields.ok) in
    let named : c.field-item.result.0 ≡ c.index.result.now.0 = names_equal c.ne.result c.as_str.result.now c.as_str-in-loop-i.result.now _ _ c.ne.ensures c.if-ne.false c.as_str.ensures.value c.as_str-in-loop-i.ensures.value in
    let valued = c.is_same.ensures.0 c.if-not-is_same.false in
    same_next field_view ones others c.loop-i.i c.field-item.result c.index.result.now c.loop-i-test.true (omega (arith, count, c.loop-i-test.true)) c.field-item.is c.index.ensures
    (ap (λ n. (n, plain c.field-item.result.1)) named ∙ ap (λ v. (c.index.result.now.0, plain v)) valued) c.loop-i.invariant

pub is_same_document-returns : goal.is_same_document-returns
is_same_document-returns t c =
    let ones = c.deref-field-items.result.now in
    let others = c.other.inside.fields.items in
    let count : length ones ≡ length others = omega (arith, c.deref-field-items.ensures.len, c.len.ensures, c.if-len.false, c.len-2.ensures, c.other.inside.fields.ok) in
    let all : map field_view ones ≡ map field_view others = rw (take_all c.loop-i.i ones c.loop-i-test.false, take_all c.loop-i.i others (omega (arith, count, c.loop-i-test.false))) at c.loop-i.invariant in
    (λ is. sym c.one.view_is ∙ ap (λ fs. map field_view fs) (sym c.deref-field-items.ensures.value) ∙ all ∙ c.other.view_is, λ same. refl)

pub are_same_items-returns-then-not-is_same : goal.are_same_items-returns-then-not-is_same
are_same_items-returns-then-not-is_same t c =
    let ones = c.deref-item-items.result.now in
    let others = c.other.inside.items.items in
    let count : length ones ≡ length others = omega (arith, c.deref-item-items.ensures.len, c.len.ensures, c.if-len.false, c.len-2.ensures, c.other.inside.items.ok) in (
      λ is. absurd (true≢false (sym is)),
      λ same.
          let seen : map plain ones ≡ map plain others = ap (λ vs. map plain vs) c.deref-item-items.ensures.value ∙ c.one.view_is ∙ same ∙ sym c.other.view_is in
          let at = same_at plain ones others c.loop-i.i c.item-item.result c.index.result.now c.loop-i-test.true (omega (arith, count, c.loop-i-test.true)) c.item-item.is c.index.ensures seen in
          absurd (true≢false (sym (c.is_same.ensures.1 (plain_one _ _ at)) ∙ c.if-not-is_same.true)),
    )

pub are_same_items-loop-i-preserved : goal.are_same_items-loop-i-preserved
are_same_items-loop-i-preserved t c =
    let ones = c.deref-item-items.result.now in
    let others = c.other.inside.items.items in
    let count : length ones ≡ length others = omega (arith, c.deref-item-items.ensures.len, c.len.ensures, c.if-len.false, c.len-2.ensures, c.other.inside.items.ok) in
    same_next plain ones others c.loop-i.i c.item-item.result c.index.result.now c.loop-i-test.true (omega (arith, count, c.loop-i-test.true)) c.item-item.is c.index.ensures
    (ap plain (c.is_same.ensures.0 c.if-not-is_same.false)) c.loop-i.invariant

pub are_same_items-returns : goal.are_same_items-returns
are_same_items-returns t c =
    let ones = c.deref-item-items.result.now in
    let others = c.other.inside.items.items in
    let count : length ones ≡ length others = omega (arith, c.deref-item-items.ensures.len, c.len.ensures, c.if-len.false, c.len-2.ensures, c.other.inside.items.ok) in
    let all : map plain ones ≡ map plain others = rw (take_all c.loop-i.i ones c.loop-i-test.false, take_all c.loop-i.i others (omega (arith, count, c.loop-i-test.false))) at c.loop-i.invariant in
    (λ is. sym c.one.view_is ∙ ap (λ vs. map plain vs) (sym c.deref-item-items.ensures.value) ∙ all ∙ c.other.view_is, λ same. refl)
