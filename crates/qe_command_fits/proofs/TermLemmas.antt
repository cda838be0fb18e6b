-- Terms of filters that were read are those of the schema's fields.
use Rattle.std.proofs.Common.{◌≡◌, ℕ, ◌+◌, Bool, true, false, List, [], ◌∷◌, refl, sym, subst, if◌then◌else◌, Option, None, Some, Ok}
use Rattle.std.specs.Prelude.{bytes_eq, decimal}
use Rattle.std.specs.List.{AllByRecursion}
use Rattle.qe_value.specs.declared.value.Plain.{Plain}
use Rattle.qe_document.specs.Views.{fields_of, items_of}
use Rattle.qe_field.specs.declared.field.Field.{Field}
use Rattle.qe_field.specs.declared.field.FieldKind.{FieldKind}
use Rattle.qe_field.specs.declared.field.FieldKind.TheVariants as k
use Rattle.qe_field.specs.Lookup.{known}
use Rattle.qe_field.specs.Names.{is_reserved}
use Rattle.qe_layout.specs.declared.malformed.Kind.TheVariants.{ReservedName}
use Rattle.qe_layout.specs.Documents.{of_type, each_read}
use Rattle.qe_layout.specs.Layouts.{Element}
use Rattle.qe_layout.specs.Refusal.{wrong, map_read, read_inside}
use Rattle.qe_parts.proofs.FormLemmas.{map_ok, bind_ok, inside_ok}
use Rattle.qe_command.specs.declared.filter.SentTerm.{SentTerm}
use Rattle.qe_command.specs.declared.filter.SentTerm.TheVariants as t
use Rattle.qe_command_document.specs.CellDocuments.{id_name, id_reads}
use Rattle.qe_command_document.specs.FilterArrays.{found_reads, term_reads, one_read, term_item, filter_reads}
use Rattle.qe_command_document.specs.Payloads.{equal_reads_of, range_reads_of}
use Rattle.qe_command_fits.specs.OfSchema.{IsEqualOf, IsRangeOf, IsTermOf, AreTermsOf}
use Rattle.qe_command_fits.proofs.FieldLemmas.{field_at}
use Rattle.qe_command_fits.proofs.IdLemmas.{id_read}
use Rattle.qe_command_fits.proofs.PayloadLemmas.{equal_of_field, range_of_field}

found_of : (fields : List Field) (name : List ℕ) (value : Plain) (term : SentTerm) (found : Option (ℕ × FieldKind)) → known fields name ≡ found
    → found_reads found name value ≡ Ok term → IsTermOf fields term
found_of fields name value term None at is = absurd (cc)
found_of fields name value term (Some (n, k.Plain)) at is = absurd (cc)
found_of fields name value term (Some (n, k.Equality id kind contention greatest)) at is =
    let found = map_ok (λ payload. t.Equal n payload) (equal_reads_of greatest name value) term is in
    subst (IsTermOf fields) (sym found.1.1)
    (field_at fields name n (k.Equality id kind contention greatest) (IsEqualOf found.0) at (equal_of_field greatest name value found.0 found.1.0))
found_of fields name value term (Some (n, k.Range id kind contention greatest domain)) at is =
    let found = map_ok (λ payload. t.Range n payload) (range_reads_of greatest name value) term is in
    subst (IsTermOf fields) (sym found.1.1)
    (field_at fields name n (k.Range id kind contention greatest domain) (IsRangeOf found.0) at (range_of_field greatest name value found.0 found.1.0))

term_of : (fields : List Field) (name : List ℕ) (value : Plain) (term : SentTerm) → term_reads fields name value ≡ Ok term → IsTermOf fields term
unfolding term_reads
term_of fields name value term is = by_tests (is_reserved name) (bytes_eq name id_name) is
  where
    by_tests : (reserved own : Bool)
        → (if reserved then wrong name ReservedName else (if own then map_read (λ id. t.Id id) (id_reads name value) else found_reads (known fields name) name value)) ≡ Ok term
        → IsTermOf fields term
    by_tests true own is = absurd (cc)
    by_tests false true is =
        let found = map_ok (λ id. t.Id id) (id_reads name value) term is in
        subst (IsTermOf fields) (sym found.1.1) (id_read name value found.0 found.1.0)
    by_tests false false is = found_of fields name value term (known fields name) refl is

-- a document of one element
one_of : (fields : List Field) (index : List ℕ) (elements : List Element) (term : SentTerm) → one_read fields index elements ≡ Ok term → IsTermOf fields term
one_of fields index [] term is = absurd (cc)
one_of fields index (e ∷ []) term is = term_of fields e.0 e.1 term (inside_ok index (term_reads fields e.0 e.1) term is)
one_of fields index (e ∷ (other ∷ elements)) term is = absurd (cc)

item_of : (fields : List Field) (index : List ℕ) (item : Plain) (term : SentTerm) → term_item fields index item ≡ Ok term → IsTermOf fields term
unfolding term_item
item_of fields index item term is =
    let inner = bind_ok (of_type index (fields_of item)) (one_read fields index) term is in
    one_of fields index inner.0 term inner.1.1

each_of : (fields : List Field) (i : ℕ) (items : List Plain) (terms : List SentTerm) → each_read (term_item fields) i items ≡ Ok terms → AreTermsOf fields terms
each_of fields i [] terms is =
    let none : [] ≡ terms = cc in
    subst (AllByRecursion (IsTermOf fields)) none tt
each_of fields i (item ∷ items) terms is =
    let first = bind_ok (term_item fields (decimal i) item) (λ x. map_read (λ (xs : List SentTerm). x ∷ xs) (each_read (term_item fields) (i + 1) items)) terms is in
    let rest = map_ok (λ (xs : List SentTerm). first.0 ∷ xs) (each_read (term_item fields) (i + 1) items) terms first.1.1 in
    subst (AllByRecursion (IsTermOf fields)) (sym rest.1.1) (item_of fields (decimal i) item first.0 first.1.0, each_of fields (i + 1) items rest.0 rest.1.0)

pub terms_fit : (fields : List Field) (name : List ℕ) (value : Plain) (terms : List SentTerm) → filter_reads fields name value ≡ Ok terms → AreTermsOf fields terms
terms_fit fields name value terms is =
    let items = bind_ok (of_type name (items_of value)) (λ items. read_inside name (each_read (term_item fields) 0 items)) terms is in
    each_of fields 0 items.0 terms (inside_ok name (each_read (term_item fields) 0 items.0) terms items.1.1)
