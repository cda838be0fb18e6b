use Rattle.std.proofs.Common.{◌≡◌, ◌+◌, ℕ, List, All, length, map, refl, sym, ap, ◌∙◌, subst, take_all, arith}
use Rattle.std.specs.List.{AllByRecursion}
use Rattle.std.proofs.lemmas.List.{length-map}
use Rattle.std.proofs.lemmas.List.Elements.{All-more}
use Rattle.qe_base.specs.Bytes.{AreBytes}
use Rattle.qe_value.specs.declared.value.Plain.{Plain}
use Rattle.qe_value.specs.declared.value.Plain.TheVariants as p
use Rattle.qe_value.specs.declared.value.Value.{Value}
use Rattle.qe_value.specs.Falls.{size_of-Doc, size_of-Array}
use Rattle.qe_value.specs.Spelling.{array_bytes, document_bytes, spelled}
use Rattle.qe_value.specs.Views.{field_view, plain, size_of}
use Rattle.qe_value.proofs.CountLemmas.{item_size, field_size}
use Rattle.qe_value.proofs.PlainLemmas.{spelled-Array, spelled-Doc}
use Rattle.qe_held.specs.Held.{IsFieldOfBytes}
use Rattle.qe_held.proofs.AllLemmas.{all_seen}
use Rattle.qe_held.proofs.BytesLemmas.{IsPart, bytes_array, bytes_as, bytes_document, leaf_bytes}
use Rattle.qe_held.proofs.values.+bytes.Goals as goal

pub value_bytes-document_of_bytes-requires : goal.value_bytes-document_of_bytes-requires
value_bytes-document_of_bytes-requires t c = (omega (arith, ap (λ w. size_of (plain w)) c.in-Doc.is ∙ size_of-Doc c.in-Doc.document), tt)

pub value_bytes-array_of_bytes-requires : goal.value_bytes-array_of_bytes-requires
value_bytes-array_of_bytes-requires t c = (omega (arith, ap (λ w. size_of (plain w)) c.in-Array.is ∙ size_of-Array c.in-Array.items), tt)

pub array_of_bytes-value_bytes-requires : goal.array_of_bytes-value_bytes-requires
array_of_bytes-value_bytes-requires t c =
    (omega (arith, rw c.slice-item-items.ensures at (item_size c.slice-item-items.result.now c.loop-item.item-index c.item-item.result c.loop-item-test.true c.item-item.is)), tt)

pub document_of_bytes-field_bytes-requires : goal.document_of_bytes-field_bytes-requires
document_of_bytes-field_bytes-requires t c =
    (omega (arith, rw c.slice-name-items.ensures at (field_size c.slice-name-items.result.now c.loop-name.name-index c.loop-name-item.result c.loop-name-test.true c.loop-name-item.is)), tt)

pub document_of_bytes-loop-name-preserved : goal.document_of_bytes-loop-name-preserved
document_of_bytes-loop-name-preserved t c =
    All-more IsFieldOfBytes c.slice-name-items.result.now c.loop-name.name-index c.loop-name-item.result c.loop-name-test.true c.loop-name.invariant
    (subst IsFieldOfBytes c.loop-name-item.is (c.field_bytes.ensures.name, c.field_bytes.ensures.value))

pub document_of_bytes-returns : goal.document_of_bytes-returns
document_of_bytes-returns t c =
    let items = c.slice-name-items.result.now in
    let each : All IsFieldOfBytes items = subst (All IsFieldOfBytes) (take_all c.loop-name.name-index items c.loop-name-test.false) c.loop-name.invariant in
    subst (λ es. AreBytes (document_bytes es)) c.slice-name-items.ensures (bytes_document (map field_view items) (all_seen field_view IsPart items each))

pub array_of_bytes-returns : goal.array_of_bytes-returns
array_of_bytes-returns t c =
    let items = c.slice-item-items.result.now in
    let each : All (λ (item : Value). AreBytes (spelled (plain item)).bytes) items =
    subst (All (λ (item : Value). AreBytes (spelled (plain item)).bytes)) (take_all c.loop-item.item-index items c.loop-item-test.false) c.loop-item.invariant in
    subst (λ vs. AreBytes (array_bytes vs)) c.slice-item-items.ensures
    (bytes_array (map plain items) (omega (arith, length-map items plain, c.slice-item-items.type_inv.0)) (all_seen plain (λ (w : Plain). AreBytes (spelled w).bytes) items each))

pub value_bytes-returns-in-Doc : goal.value_bytes-returns-in-Doc
value_bytes-returns-in-Doc t c =
    subst (λ (w : Value). AreBytes (spelled (plain w)).bytes) (sym c.in-Doc.is) (bytes_as (p.Doc c.in-Doc.document) _ (spelled-Doc c.in-Doc.document) c.document_of_bytes.ensures)

pub value_bytes-returns-in-Array : goal.value_bytes-returns-in-Array
value_bytes-returns-in-Array t c =
    subst (λ (w : Value). AreBytes (spelled (plain w)).bytes) (sym c.in-Array.is) (bytes_as (p.Array c.in-Array.items) _ (spelled-Array c.in-Array.items) c.array_of_bytes.ensures)

pub value_bytes-returns-in_default : goal.value_bytes-returns-in_default
value_bytes-returns-in_default t c = leaf_bytes c.args.value.now (λ fs. c.in_default.not-Doc fs) (λ vs. c.in_default.not-Array vs) c.leaf_bytes.ensures
