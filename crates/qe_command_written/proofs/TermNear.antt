-- Filters and tokens are written no longer than they were read.
use Rattle.std.proofs.Common.{◌≡◌, ℕ, ◌+◌, Bool, true, false, List, [], ◌∷◌, map, refl, ap, sym, subst, ◌∙◌, if◌then◌else◌, Option, None, Some, Ok}
use Rattle.std.specs.Prelude.{bytes_eq, decimal}
use Rattle.std.specs.List.{AllByRecursion}
use Rattle.std.specs.Option.{option_or}
use Rattle.std.proofs.lemmas.Bool.{cond-true}
use Rattle.std.proofs.lemmas.Slice.Eq.{bytes_eq-Decides}
use Rattle.qe_base.specs.Bytes.{AreBytes}
use Rattle.qe_value.specs.declared.value.Plain.{Plain}
use Rattle.qe_value.specs.declared.value.Plain.TheVariants as p
use Rattle.qe_value.specs.Spelling.{spelled, document_bytes}
use Rattle.qe_document.specs.Names.{Distinct, value_named}
use Rattle.qe_document.specs.Views.{fields_of, items_of}
use Rattle.qe_tokens.specs.declared.words.FieldToken.{FieldToken}
use Rattle.qe_field.specs.declared.field.Field.{Field}
use Rattle.qe_field.specs.declared.field.FieldKind.{FieldKind}
use Rattle.qe_field.specs.declared.field.FieldKind.TheVariants as k
use Rattle.qe_field.specs.Lookup.{known}
use Rattle.qe_field.specs.Names.{is_reserved}
use Rattle.qe_layout.specs.declared.malformed.Kind.TheVariants.{ReservedName}
use Rattle.qe_layout.specs.Documents.{of_type, each_read}
use Rattle.qe_layout.specs.Layouts.{Element}
use Rattle.qe_layout.specs.Refusal.{wrong, map_read, read_inside}
use Rattle.qe_parts.proofs.FormLemmas.{map_ok, bind_ok, inside_ok}
use Rattle.qe_parts.proofs.NamedLemmas.{fields_are, items_are, type_ok}
use Rattle.qe_command.specs.declared.filter.SentTerm.{SentTerm}
use Rattle.qe_command.specs.declared.filter.SentTerm.TheVariants as t
use Rattle.qe_command_document.specs.CellDocuments.{id_name, id_reads, field_rows, token_reads, tokens_of}
use Rattle.qe_command_document.specs.FilterArrays.{found_reads, term_reads, one_read, term_item, filter_reads}
use Rattle.qe_command_document.specs.Payloads.{equal_reads_of, range_reads_of}
use Rattle.qe_command_written.specs.Faults.{term_fault, terms_fault}
use Rattle.qe_command_written.specs.Written.{term_name, sought_value, term_value, filter_value, token_elements}
use Rattle.qe_command_written.proofs.TermLemmas.{term_at, token_slots, token_value}
use Rattle.qe_command_written.proofs.NearLemmas.{IsNear, itself, written_near, AreNear, doc_near, EachNear, array_near, are_near, named_bytes, doc_bytes, array_items}
use Rattle.qe_command_written.proofs.PayloadNear.{equal_value_near, range_value_near}
use Rattle.qe_command_written.proofs.CommandNear.{id_near}

abbrev TermNear : Plain → SentTerm → Type 0
TermNear value term = IsNear value (sought_value term) × (term_fault term ≡ None)

found_near : (found : Option (ℕ × FieldKind)) (name : List ℕ) (value : Plain) (term : SentTerm) → found_reads found name value ≡ Ok term → AreBytes (spelled value).bytes → TermNear value term
found_near None name value term is are = absurd (cc)
found_near (Some (n, k.Plain)) name value term is are = absurd (cc)
found_near (Some (n, k.Equality id kind contention greatest)) name value term is are =
    let found = map_ok (λ payload. t.Equal n payload) (equal_reads_of greatest name value) term is in
    subst (TermNear value) (sym found.1.1) (equal_value_near greatest name value found.0 found.1.0 are, refl)
found_near (Some (n, k.Range id kind contention greatest domain)) name value term is are =
    let found = map_ok (λ payload. t.Range n payload) (range_reads_of greatest name value) term is in
    subst (TermNear value) (sym found.1.1) (range_value_near greatest name value found.0 found.1.0 are)

term_near : (fields : List Field) (name : List ℕ) (value : Plain) (term : SentTerm) → term_reads fields name value ≡ Ok term → AreBytes (spelled value).bytes → TermNear value term
unfolding term_reads
term_near fields name value term is are = by_tests (is_reserved name) (bytes_eq name id_name) is
  where
    by_tests : (reserved own : Bool) → (if reserved then wrong name ReservedName else (if own then map_read (λ id. t.Id id) (id_reads name value) else found_reads (known fields name) name value)) ≡ Ok term
        → TermNear value term
    by_tests true own is = absurd (cc)
    by_tests false true is =
        let found = map_ok (λ id. t.Id id) (id_reads name value) term is in
        subst (TermNear value) (sym found.1.1) (id_near name value found.0 found.1.0, refl)
    by_tests false false is = found_near (known fields name) name value term is are

-- a document of one element
one_near : (fields : List Field) (index : List ℕ) (was : List Element) (term : SentTerm) → one_read fields index was ≡ Ok term → AreBytes (document_bytes was)
    → AreNear was ((term_name fields term, sought_value term) ∷ []) × (term_fault term ≡ None)
one_near fields index [] term is are = absurd (cc)
one_near fields index (e ∷ []) term is are =
    let read = inside_ok index (term_reads fields e.0 e.1) term is in
    let itself : value_named e.0 (e ∷ []) ≡ Some e.1 = cond-true (bytes_eq e.0 e.0) (Some e.1) None ((bytes_eq-Decides e.0 e.0).1 refl) in
    let near = term_near fields e.0 e.1 term read (named_bytes e.0 (e ∷ []) e.1 are itself) in
    let named : e.0 ≡ term_name fields term = (term_at fields e.0 e.1 term read).1.0 in
    let found : value_named (term_name fields term) (e ∷ []) ≡ Some e.1 = ap (λ name. value_named name (e ∷ [])) (sym named) ∙ itself in
    (are_near (e ∷ []) ((term_name fields term, sought_value term) ∷ []) (refl, tt) ((e.1, (found, near.0)), tt), near.1)
one_near fields index (e ∷ (other ∷ was)) term is are = absurd (cc)

item_near : (fields : List Field) (index : List ℕ) (item : Plain) (term : SentTerm) → term_item fields index item ≡ Ok term → AreBytes (spelled item).bytes
    → IsNear item (term_value fields term) × (term_fault term ≡ None)
unfolding term_item
item_near fields index item term is are =
    let inner = bind_ok (of_type index (fields_of item)) (one_read fields index) term is in
    let item_is : item ≡ p.Doc inner.0 = fields_are item inner.0 (type_ok index (fields_of item) inner.0 inner.1.0) in
    let bytes = doc_bytes inner.0 (subst (λ v. AreBytes (spelled v).bytes) item_is are) in
    let near = one_near fields index inner.0 term inner.1.1 bytes in
    (subst (λ v. IsNear v (term_value fields term)) (sym item_is) (doc_near inner.0 ((term_name fields term, sought_value term) ∷ []) near.0), near.1)

abbrev TermsNear : List Field → List Plain → List SentTerm → Type 0
TermsNear fields items terms = EachNear items (map (term_value fields) terms) × (terms_fault terms ≡ None)

each_near : (fields : List Field) (i : ℕ) (items : List Plain) (terms : List SentTerm) → each_read (term_item fields) i items ≡ Ok terms
    → AllByRecursion (λ v. AreBytes (spelled v).bytes) items → TermsNear fields items terms
each_near fields i [] terms is are =
    let none : [] ≡ terms = cc in
    subst (TermsNear fields []) none (tt, refl)
each_near fields i (item ∷ items) terms is are =
    let first = bind_ok (term_item fields (decimal i) item) (λ x. map_read (λ (xs : List SentTerm). x ∷ xs) (each_read (term_item fields) (i + 1) items)) terms is in
    let rest = map_ok (λ (xs : List SentTerm). first.0 ∷ xs) (each_read (term_item fields) (i + 1) items) terms first.1.1 in
    let here = item_near fields (decimal i) item first.0 first.1.0 are.0 in
    let more = each_near fields (i + 1) items rest.0 rest.1.0 are.1 in
    subst (TermsNear fields (item ∷ items)) (sym rest.1.1) ((here.0, more.0), ap (λ f. option_or f (terms_fault rest.0)) here.1 ∙ more.1)

pub filter_near : (fields : List Field) (name : List ℕ) (value : Plain) (terms : List SentTerm) → filter_reads fields name value ≡ Ok terms → AreBytes (spelled value).bytes
    → IsNear value (filter_value fields terms) × (terms_fault terms ≡ None)
filter_near fields name value terms is are =
    let items = bind_ok (of_type name (items_of value)) (λ items. read_inside name (each_read (term_item fields) 0 items)) terms is in
    let value_is : value ≡ p.Array items.0 = items_are value items.0 (type_ok name (items_of value) items.0 items.1.0) in
    let bytes = array_items items.0 (subst (λ v. AreBytes (spelled v).bytes) value_is are) in
    let each = each_near fields 0 items.0 terms (inside_ok name (each_read (term_item fields) 0 items.0) terms items.1.1) bytes in
    (subst (λ v. IsNear v (filter_value fields terms)) (sym value_is) (array_near items.0 (map (term_value fields) terms) each.0), each.1)

pub tokens_near : (fields : List Field) (was : List Element) (tokens : List FieldToken) → tokens_of fields was ≡ Ok tokens → Distinct (field_rows fields) → AreBytes (document_bytes was)
    → AreNear was (token_elements fields tokens)
tokens_near fields was tokens is apart are =
    let found = token_slots fields was tokens is in
    subst (AreNear was) (sym found.same)
    (written_near (token_reads fields) (λ token. p.Binary 0 token) (field_rows fields) found.slots was apart are
    (λ name value token read bytes. subst (IsNear value) (token_value fields name value token read) (itself value)) found.each)
