-- What a payload carries unread can be written, since it stands in a document that was read.
use Rattle.std.proofs.Common.{◌≡◌, ℕ, zero, suc, ◌+◌, List, [], ◌∷◌, ◌++◌, drop, Option, Some, None, refl, ap, sym, ◌∙◌, add-one}
use Rattle.std.specs.Prelude.{slice_get, option_map}
use Rattle.qe_value.specs.declared.value.Plain.{Plain}
use Rattle.qe_document.specs.Names.{value_named}
use Rattle.qe_document.specs.Spelling.{IsDocument}
use Rattle.qe_encode.proofs.FlatLemmas.{writing_laws}
use Rattle.qe_insert.specs.declared.insert.InsertPayload.{InsertPayload}
use Rattle.qe_find.specs.declared.range.FindRange.{FindRange}
use Rattle.qe_layout.specs.Layouts.{Element}
use Rattle.qe_parts.specs.Carried.{extra_names, picked_one, picked}
use Rattle.qe_insert.specs.Insert.{IsInsertBlob}
use Rattle.qe_find.specs.Range.{IsRangeBlob}
use Rattle.qe_find.proofs.FormLemmas.{range_extra}
use Rattle.qe_insert.proofs.FormLemmas.{insert_extra}
use Rattle.qe_show.specs.Payloads.{AreWritable}

one_writable : (name : List ℕ) (value : Option Plain) (rest : List Element) → ((v : Plain) → value ≡ Some v → IsDocument (([], v) ∷ [])) → AreWritable rest
    → AreWritable (picked_one name value ++ rest)
one_writable name None rest alone later = later
one_writable name (Some v) rest alone later = (alone v refl, later)

picked_writable : (names : List (List ℕ)) (elements : List Element) → IsDocument elements → AreWritable (picked names elements)
picked_writable [] elements is = tt
picked_writable (name ∷ names) elements is =
    one_writable name (value_named name elements) (picked names elements) (λ v found. writing_laws.alone elements name v is found) (picked_writable names elements is)

pub insert_writable : (payload : InsertPayload) (blob : List ℕ) → IsInsertBlob payload blob → AreWritable payload.extra
insert_writable payload blob is = rw (insert_extra payload is.elements is.payload_is) (picked_writable extra_names is.elements is.blob_is.document.document)

pub range_writable : (payload : FindRange) (blob : List ℕ) → IsRangeBlob payload blob → AreWritable payload.extra
range_writable payload blob is = rw (range_extra payload is.elements is.payload_is) (picked_writable extra_names is.elements is.blob_is.document.document)

-- the element at a place begins what is left there
pub element_next : (elements : List Element) (i : ℕ) (name : List ℕ) (v : Plain) → Some name ≡ option_map (λ e. e.0) (slice_get elements i)
    → Some v ≡ option_map (λ e. e.1) (slice_get elements i) → drop i elements ≡ (name, v) ∷ drop (i + 1) elements
element_next [] i name v name_is value_is = absurd (cc)
element_next (e ∷ elements) zero name v name_is value_is =
    let same_name : e.0 ≡ name = cc in
    let same_value : e.1 ≡ v = cc in
    let same : e ≡ (name, v) = λ i. (same_name i, same_value i) in
    ap (λ first. first ∷ elements) same
element_next (e ∷ elements) (suc i) name v name_is value_is =
    element_next elements i name v name_is value_is
    ∙ ap (λ rest. (name, v) ∷ rest) (ap (λ n. drop n elements) (add-one i) ∙ ap (λ n. drop n (e ∷ elements)) (sym (add-one (suc i))))
