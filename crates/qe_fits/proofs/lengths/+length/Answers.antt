use Rattle.std.proofs.Common.{ap, ◌∙◌, arith}
use Rattle.qe_value.proofs.CountLemmas.{item_size, field_size}
use Rattle.qe_value.specs.Falls.{size_of-Doc, size_of-Array}
use Rattle.qe_value.specs.Views.{plain, size_of}
use Rattle.qe_fits.proofs.CountLemmas.{leaf, of_document, of_array}
use Rattle.qe_fits.proofs.lengths.+length.Goals as goal

pub value_length-document_length-requires : goal.value_length-document_length-requires
value_length-document_length-requires t c = (omega (arith, ap (λ w. size_of (plain w)) c.in-Doc.is ∙ size_of-Doc c.in-Doc.document), tt)

pub value_length-array_length-requires : goal.value_length-array_length-requires
value_length-array_length-requires t c = (omega (arith, ap (λ w. size_of (plain w)) c.in-Array.is ∙ size_of-Array c.in-Array.items), tt)

pub array_length-value_length-requires : goal.array_length-value_length-requires
array_length-value_length-requires t c =
    (omega (arith, rw c.slice-item-items.ensures at (item_size c.slice-item-items.result.now c.loop-place.place c.item-item.result c.loop-place-test.true c.item-item.is)), tt)

pub document_length-value_length-requires : goal.document_length-value_length-requires
document_length-value_length-requires t c =
    (omega (arith, rw c.slice-name-items.ensures at (field_size c.slice-name-items.result.now c.loop-name.name-index c.loop-name-item.result c.loop-name-test.true c.loop-name-item.is)), tt)

pub value_length-returns-in-Doc : goal.value_length-returns-in-Doc
value_length-returns-in-Doc t c = rw (c.in-Doc.is, of_document c.in-Doc.document) c.document_length.ensures

pub value_length-returns-in-Array : goal.value_length-returns-in-Array
value_length-returns-in-Array t c = rw (c.in-Array.is, of_array c.in-Array.items) c.array_length.ensures

pub value_length-returns-in_default : goal.value_length-returns-in_default
value_length-returns-in_default t c = rw (leaf c.args.value.now (λ fs. c.in_default.not-Doc fs) (λ vs. c.in_default.not-Array vs)) c.leaf_length.ensures
