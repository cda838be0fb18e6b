-- What stands under each name of a command that was read.
use Rattle.std.proofs.Common.{◌≡◌, ℕ, ℤ, pos, negsuc, ◌<◌, ◌≤◌, ◌^◌, ◌&&◌, Bool, true, false, nat_lt, List, refl, ap, sym, subst, ◌∙◌, arith, if◌then◌else◌, Option, None, Some, Ok}
use Rattle.std.specs.Prelude.{codes, nat_abs, int_le, FitsSigned}
use Rattle.std.specs.Int.{w64}
use Rattle.std.proofs.lemmas.Bool.{and_parts, leb-true, ltb-false}
use Rattle.qe_value.specs.declared.value.Plain.{Plain}
use Rattle.qe_value.specs.declared.value.Plain.TheVariants as p
use Rattle.qe_value.proofs.PlainLemmas.{out-Int64}
use Rattle.qe_encode.proofs.FlatLemmas.{writing_laws}
use Rattle.qe_document.specs.Names.{Distinct, value_named}
use Rattle.qe_document.specs.Spelling.{IsDocument, FieldsFit, ItemsFit, Fits_with}
use Rattle.qe_document.specs.Views.{fields_of}
use Rattle.qe_field.specs.declared.field.Field.{Field}
use Rattle.qe_field.specs.declared.field.FieldKind.{FieldKind}
use Rattle.qe_field.specs.Lookup.{known, is_encrypted}
use Rattle.qe_field.specs.Values.{text_in}
use Rattle.qe_layout.specs.declared.malformed.Kind.{Kind}
use Rattle.qe_layout.specs.declared.malformed.Kind.TheVariants.{BadLimit, ContentionAbove}
use Rattle.qe_layout.specs.Documents.{of_type, document_reads}
use Rattle.qe_layout.specs.Layouts.{Element, Reader, IsSlot}
use Rattle.qe_layout.specs.Leaves.{int32_reads, natural_reads}
use Rattle.qe_layout.specs.Refusal.{wrong, map_read, read_inside}
use Rattle.qe_parts.proofs.FormLemmas.{map_ok, bind_ok, inside_ok}
use Rattle.qe_command.specs.declared.command.Command.TheVariants as c
use Rattle.qe_command_document.specs.declared.part.Part.{Part}
use Rattle.qe_command_document.specs.declared.part.Part.TheVariants as part
use Rattle.qe_command_document.specs.CellDocuments.{field_rows, encrypted_among, doc_of, set_of, tokens_of}
use Rattle.qe_command_document.specs.CommandDocument.{limit_reads, limit_within, named_field, path_reads, plain_reads, element_reads, doc_in, set_in, filter_in, tokens_in, number_in, limit_in, field_in, greatest_at, within}
use Rattle.qe_command_document.specs.FilterArrays.{filter_reads}
use Rattle.qe_command_fits.specs.OfSchema.{IsIdValue, IsFieldAt, AreCellsOf, AreTermsOf, AreTokensOf}
use Rattle.qe_command_fits.proofs.FieldLemmas.{field_at}
use Rattle.qe_command_fits.proofs.CellLemmas.{doc_fits, set_fits, tokens_fit, encrypted_is}
use Rattle.qe_command_fits.proofs.TermLemmas.{terms_fit}

pub doc_element : (fields : List Field) (value : Plain) (x : Part) → Distinct (field_rows fields) → element_reads fields (codes "doc") value ≡ Ok x
    → IsIdValue (doc_in (Some x)).id × AreCellsOf fields (doc_in (Some x)).cells
unfolding element_reads
doc_element fields value x apart is =
    let name = codes "doc" in
    let found = map_ok (λ d. part.Doc d) (document_reads (doc_of fields) name value) x is in
    let inner = bind_ok (of_type name (fields_of value)) (λ es. read_inside name (doc_of fields es)) found.0 found.1.0 in
    subst (λ y. IsIdValue (doc_in (Some y)).id × AreCellsOf fields (doc_in (Some y)).cells) (sym found.1.1)
    (doc_fits fields inner.0 found.0 apart (inside_ok name (doc_of fields inner.0) found.0 inner.1.1))

pub set_element : (fields : List Field) (value : Plain) (x : Part) → Distinct (field_rows fields) → element_reads fields (codes "set") value ≡ Ok x
    → AreCellsOf fields (set_in (Some x))
unfolding element_reads
set_element fields value x apart is =
    let name = codes "set" in
    let found = map_ok (λ set. part.Set set) (document_reads (set_of fields) name value) x is in
    let inner = bind_ok (of_type name (fields_of value)) (λ es. read_inside name (set_of fields es)) found.0 found.1.0 in
    subst (λ y. AreCellsOf fields (set_in (Some y))) (sym found.1.1)
    (set_fits fields inner.0 found.0 apart (inside_ok name (set_of fields inner.0) found.0 inner.1.1))

pub filter_element : (fields : List Field) (value : Plain) (x : Part) → element_reads fields (codes "filter") value ≡ Ok x → AreTermsOf fields (filter_in (Some x))
unfolding element_reads
filter_element fields value x is =
    let name = codes "filter" in
    let found = map_ok (λ terms. part.Filter terms) (filter_reads fields name value) x is in
    subst (λ y. AreTermsOf fields (filter_in (Some y))) (sym found.1.1) (terms_fit fields name value found.0 found.1.0)

pub tokens_element : (fields : List Field) (value : Plain) (x : Part) → Distinct (field_rows fields) → element_reads fields (codes "tokens") value ≡ Ok x
    → AreTokensOf fields (tokens_in (Some x))
unfolding element_reads
tokens_element fields value x apart is =
    let name = codes "tokens" in
    let found = map_ok (λ tokens. part.Tokens tokens) (document_reads (tokens_of fields) name value) x is in
    let inner = bind_ok (of_type name (fields_of value)) (λ es. read_inside name (tokens_of fields es)) found.0 found.1.0 in
    subst (λ y. AreTokensOf fields (tokens_in (Some y))) (sym found.1.1)
    (tokens_fit fields inner.0 found.0 apart (inside_ok name (tokens_of fields inner.0) found.0 inner.1.1))

-- a number of a document has its bits
pub fits_64 : (elements : List Element) (name : List ℕ) (n : ℕ) → IsDocument elements → value_named name elements ≡ Some (p.Int64 (pos n)) → n < 2 ^ 63
unfolding FieldsFit
fits_64 elements name n document found =
    let alone = writing_laws.alone elements name (p.Int64 (pos n)) document found in
    let signed : FitsSigned w64 (pos n) = subst (λ o. Fits_with (FieldsFit 99) (ItemsFit 99) o) (out-Int64 (pos n)) alone.fits.1.0.1 in
    omega (arith, signed)

pub natural_is : (name : List ℕ) (value : Plain) (z : ℤ) → natural_reads name value ≡ Ok z → (n : ℕ) × ((value ≡ p.Int64 (pos n)) × (z ≡ pos n))
natural_is name (p.Int64 (pos n)) z is = (n, (refl, let same : pos n ≡ z = cc in sym same))
natural_is name (p.Int64 (negsuc n)) z is = absurd (cc)
natural_is name _ z is = absurd (cc)

-- a number under a name
pub number_from : (name : List ℕ) (value : Plain) (x : Part) → map_read (λ number. part.Number (nat_abs number)) (natural_reads name value) ≡ Ok x
    → (n : ℕ) × ((x ≡ part.Number n) × (value ≡ p.Int64 (pos n)))
number_from name value x is =
    let found = map_ok (λ number. part.Number (nat_abs number)) (natural_reads name value) x is in
    let natural = natural_is name value found.0 found.1.0 in
    (natural.0, (found.1.1 ∙ ap (λ z. part.Number (nat_abs z)) natural.1.1, natural.1.0))

pub number_within : (reads : Reader Part) (elements : List Element) (name : List ℕ) (kind : Kind) (s : Option Part)
    → ((value : Plain) (x : Part) → reads name value ≡ Ok x → map_read (λ number. part.Number (nat_abs number)) (natural_reads name value) ≡ Ok x)
    → IsDocument elements → IsSlot reads elements (name, Some kind) s → number_in s < 2 ^ 63
number_within reads elements name kind None same document is = let no : Some kind ≡ None = is.0 in absurd (cc)
number_within reads elements name kind (Some x) same document is =
    let found = number_from name is.0 x (same is.0 x is.1.1) in
    subst (λ y. number_in (Some y) < 2 ^ 63) (sym found.1.0) (fits_64 elements name found.0 document (is.1.0 ∙ ap (λ v. Some v) found.1.1))

limit_holds : (name : List ℕ) (z : ℤ) (n : ℕ) → limit_within name z ≡ Ok n → (1 ≤ n) × (n ≤ 65536)
limit_holds name (pos m) n is = by_test (int_le (pos 1) (pos m) && int_le (pos m) (pos 65536)) refl is
  where
    by_test : (b : Bool) → (int_le (pos 1) (pos m) && int_le (pos m) (pos 65536)) ≡ b → (if b then Ok (nat_abs (pos m)) else wrong name (BadLimit (pos m))) ≡ Ok n
        → (1 ≤ n) × (n ≤ 65536)
    by_test true both is =
        let parts = and_parts (int_le (pos 1) (pos m)) (int_le (pos m) (pos 65536)) both in
        let same : m ≡ n = cc in
        subst (λ (x : ℕ). (1 ≤ x) × (x ≤ 65536)) same (leb-true 1 m parts.0, leb-true m 65536 parts.1)
    by_test false other is = absurd (cc)
limit_holds name (negsuc m) n is = absurd (cc)

pub limit_element : (fields : List Field) (value : Plain) (x : Part) → element_reads fields (codes "limit") value ≡ Ok x
    → (1 ≤ limit_in (Some x)) × (limit_in (Some x) ≤ 65536)
unfolding element_reads plain_reads
limit_element fields value x is =
    let name = codes "limit" in
    let found = map_ok (λ limit. part.Limit limit) (limit_reads name value) x is in
    let number = bind_ok (int32_reads name value) (limit_within name) found.0 found.1.0 in
    subst (λ y. (1 ≤ limit_in (Some y)) × (limit_in (Some y) ≤ 65536)) (sym found.1.1) (limit_holds name number.0 found.0 number.1.1)

pub field_element : (fields : List Field) (value : Plain) (x : Part) → element_reads fields (codes "field") value ≡ Ok x
    → IsFieldAt fields (field_in (Some x)) (λ kind. is_encrypted kind ≡ true)
unfolding element_reads plain_reads
field_element fields value x is =
    let name = codes "field" in
    let found = map_ok (λ field. part.Field field) (path_reads fields name value) x is in
    let text = bind_ok (of_type name (text_in value)) (named_field fields name) found.0 found.1.0 in
    let field = map_ok (λ (f : ℕ × FieldKind). f.0) (encrypted_among name (known fields text.0)) found.0 text.1.1 in
    let known_is = encrypted_is name (known fields text.0) field.0 field.1.0 in
    subst (λ y. IsFieldAt fields (field_in (Some y)) (λ kind. is_encrypted kind ≡ true)) (sym found.1.1)
    (subst (λ n. IsFieldAt fields n (λ kind. is_encrypted kind ≡ true)) (sym field.1.1)
    (field_at fields text.0 field.0.0 field.0.1 (λ kind. is_encrypted kind ≡ true) known_is.0 known_is.1))

-- a raise
pub raise_within : (fields : List Field) (field contention : ℕ) → within fields (c.Raise field contention) ≡ Ok (c.Raise field contention) → contention ≤ greatest_at fields field
raise_within fields field contention is = by_test (nat_lt (greatest_at fields field) contention) refl is
  where
    by_test : (b : Bool) → nat_lt (greatest_at fields field) contention ≡ b
        → (if b then wrong (codes "contention") (ContentionAbove contention (greatest_at fields field)) else Ok (c.Raise field contention)) ≡ Ok (c.Raise field contention)
        → contention ≤ greatest_at fields field
    by_test true above is = absurd (cc)
    by_test false fine is = ltb-false (greatest_at fields field) contention fine
