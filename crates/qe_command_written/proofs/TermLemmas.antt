-- What is read of filters and tokens is written and read again.
use Rattle.std.proofs.Common.{◌≡◌, ℕ, suc, ◌+◌, Bool, true, false, List, [], ◌∷◌, map, refl, ap, sym, subst, ◌∙◌, arith, if◌then◌else◌, Option, None, Some, Result, Ok}
use Rattle.std.specs.Prelude.{bytes_eq, slice_get, decimal}
use Rattle.std.specs.List.{AllByRecursion}
use Rattle.std.proofs.lemmas.Slice.Eq.{bytes_eq-Decides}
use Rattle.qe_value.specs.declared.value.Plain.{Plain}
use Rattle.qe_value.specs.declared.value.Plain.TheVariants as p
use Rattle.qe_document.specs.Names.{Distinct}
use Rattle.qe_document.specs.Views.{fields_of, items_of}
use Rattle.qe_tokens.specs.declared.words.FieldToken.{FieldToken}
use Rattle.qe_field.specs.declared.field.Field.{Field}
use Rattle.qe_field.specs.declared.field.FieldKind.{FieldKind}
use Rattle.qe_field.specs.declared.field.FieldKind.TheVariants as k
use Rattle.qe_field.specs.Lookup.{known, path_of}
use Rattle.qe_field.specs.Names.{is_reserved}
use Rattle.qe_layout.specs.declared.malformed.Kind.TheVariants.{ReservedName}
use Rattle.qe_layout.specs.Documents.{of_type, each_read}
use Rattle.qe_layout.specs.Layouts.{Element, Reader, AreSlots, arranged, built}
use Rattle.qe_layout.specs.Leaves.{fixed_reads}
use Rattle.qe_layout.specs.Refusal.{Refusal, wrong, bind, map_read, read_inside}
use Rattle.qe_layout.specs.Writing.{written}
use Rattle.qe_layout.proofs.LaidLemmas.{arranged_slots}
use Rattle.qe_layout.proofs.WrittenLemmas.{written_read, written-distinct}
use Rattle.qe_parts.specs.declared.parts.Part.TheVariants as part
use Rattle.qe_parts.proofs.EntryLemmas.{fields_of-Doc, items_of-Array, each_again}
use Rattle.qe_parts.proofs.FormLemmas.{map_ok, bind_ok, inside_ok}
use Rattle.qe_parts.proofs.NamedLemmas.{token_is}
use Rattle.qe_command.specs.declared.filter.SentTerm.{SentTerm}
use Rattle.qe_command.specs.declared.filter.SentTerm.TheVariants as t
use Rattle.qe_command_document.specs.CellDocuments.{id_name, id_reads, encrypted_among, token_reads, tokens_from, tokens_of, field_rows}
use Rattle.qe_command_document.specs.FilterArrays.{found_reads, term_reads, one_read, term_item, filter_reads}
use Rattle.qe_command_document.specs.Payloads.{equal_reads_of, range_reads_of}
use Rattle.qe_command_fits.proofs.FieldLemmas.{known_path}
use Rattle.qe_command_written.specs.Parts.{FitsTerm, TermAgain}
use Rattle.qe_command_written.specs.Written.{term_name, sought_value, term_value, filter_value, token_elements}
use Rattle.qe_command_written.proofs.CellLemmas.{id_again, paths_of}
use Rattle.qe_command_written.proofs.FormLemmas.{equal_under, range_under}
use Rattle.qe_command_written.proofs.TableLemmas.{EachPart, spelled}

abbrev pub Held : List Field → List ℕ → (Plain → Result SentTerm Refusal) → SentTerm → Type 0
Held fields name reads term = FitsTerm term × ((name ≡ term_name fields term) × (TermAgain term → reads (sought_value term) ≡ Ok term))

found_at : (fields : List Field) (name : List ℕ) (value : Plain) (term : SentTerm) (found : Option (ℕ × FieldKind)) → known fields name ≡ found → found_reads found name value ≡ Ok term
    → Held fields name (found_reads found name) term
found_at fields name value term None at is = absurd (cc)
found_at fields name value term (Some (n, k.Plain)) at is = absurd (cc)
found_at fields name value term (Some (n, k.Equality id kind contention greatest)) at is =
    let found = map_ok (λ payload. t.Equal n payload) (equal_reads_of greatest name value) term is in
    let under = equal_under greatest name value found.0 found.1.0 in
    subst (Held fields name (found_reads (Some (n, k.Equality id kind contention greatest)) name)) (sym found.1.1)
    (under.0, (known_path fields name n (k.Equality id kind contention greatest) at, λ again. ap (map_read (λ payload. t.Equal n payload)) (under.1 again)))
found_at fields name value term (Some (n, k.Range id kind contention greatest domain)) at is =
    let found = map_ok (λ payload. t.Range n payload) (range_reads_of greatest name value) term is in
    let under = range_under greatest name value found.0 found.1.0 in
    subst (Held fields name (found_reads (Some (n, k.Range id kind contention greatest domain)) name)) (sym found.1.1)
    (under.0, (known_path fields name n (k.Range id kind contention greatest domain) at, λ again. ap (map_read (λ payload. t.Range n payload)) (under.1 again)))

pub term_at : (fields : List Field) (name : List ℕ) (value : Plain) (term : SentTerm) → term_reads fields name value ≡ Ok term → Held fields name (term_reads fields name) term
unfolding term_reads
term_at fields name value term is = by_tests (is_reserved name) (bytes_eq name id_name) (bytes_eq-Decides name id_name).0 is
  where
    by_tests : (reserved own : Bool) → (own ≡ true → name ≡ id_name)
        → (if reserved then wrong name ReservedName else (if own then map_read (λ id. t.Id id) (id_reads name value) else found_reads (known fields name) name value)) ≡ Ok term
        → Held fields name (λ v. if reserved then wrong name ReservedName else (if own then map_read (λ id. t.Id id) (id_reads name v) else found_reads (known fields name) name v)) term
    by_tests true own same is = absurd (cc)
    by_tests false true same is =
        let found = map_ok (λ id. t.Id id) (id_reads name value) term is in
        subst (Held fields name (λ v. map_read (λ id. t.Id id) (id_reads name v))) (sym found.1.1)
        (tt, (same refl, λ again. ap (map_read (λ id. t.Id id)) (id_again name value found.0 found.1.0)))
    by_tests false false same is = found_at fields name value term (known fields name) refl is

-- a term in its document
abbrev ItemAgain : List Field → SentTerm → Type 0
ItemAgain fields term = (index : List ℕ) → term_item fields index (term_value fields term) ≡ Ok term

one_at : (fields : List Field) (index : List ℕ) (elements : List Element) (term : SentTerm) → one_read fields index elements ≡ Ok term
    → (e : Element) × (term_reads fields e.0 e.1 ≡ Ok term)
one_at fields index [] term is = absurd (cc)
one_at fields index (e ∷ []) term is = (e, inside_ok index (term_reads fields e.0 e.1) term is)
one_at fields index (e ∷ (other ∷ elements)) term is = absurd (cc)

item_at : (fields : List Field) (index : List ℕ) (item : Plain) (term : SentTerm) → term_item fields index item ≡ Ok term → FitsTerm term × (TermAgain term → ItemAgain fields term)
unfolding term_item
item_at fields index item term is =
    let inner = bind_ok (of_type index (fields_of item)) (one_read fields index) term is in
    let one = one_at fields index inner.0 term inner.1.1 in
    let held = term_at fields one.0.0 one.0.1 term one.1 in
    let read : TermAgain term → term_reads fields (term_name fields term) (sought_value term) ≡ Ok term =
    λ again. ap (λ name. term_reads fields name (sought_value term)) (sym held.1.0) ∙ held.1.1 again in (
      held.0,
      λ again index.
          ap (λ found. bind (of_type index found) (one_read fields index)) (fields_of-Doc ((term_name fields term, sought_value term) ∷ []))
          ∙ ap (read_inside index) (read again),
    )

each_at : (fields : List Field) (i : ℕ) (items : List Plain) (terms : List SentTerm) → each_read (term_item fields) i items ≡ Ok terms
    → AllByRecursion FitsTerm terms × (AllByRecursion TermAgain terms → AllByRecursion (ItemAgain fields) terms)
each_at fields i [] terms is =
    let none : [] ≡ terms = cc in
    subst (λ (ts : List SentTerm). AllByRecursion FitsTerm ts × (AllByRecursion TermAgain ts → AllByRecursion (ItemAgain fields) ts)) none (tt, λ again. tt)
each_at fields i (item ∷ items) terms is =
    let first = bind_ok (term_item fields (decimal i) item) (λ x. map_read (λ (xs : List SentTerm). x ∷ xs) (each_read (term_item fields) (i + 1) items)) terms is in
    let rest = map_ok (λ (xs : List SentTerm). first.0 ∷ xs) (each_read (term_item fields) (i + 1) items) terms first.1.1 in
    let here = item_at fields (decimal i) item first.0 first.1.0 in
    let more = each_at fields (i + 1) items rest.0 rest.1.0 in
    subst (λ (ts : List SentTerm). AllByRecursion FitsTerm ts × (AllByRecursion TermAgain ts → AllByRecursion (ItemAgain fields) ts)) (sym rest.1.1)
    ((here.0, more.0), λ again. (here.1 again.0, more.1 again.1))

-- a filter
pub filter_written : (fields : List Field) (name : List ℕ) (value : Plain) (terms : List SentTerm) → filter_reads fields name value ≡ Ok terms
    → AllByRecursion FitsTerm terms × (AllByRecursion TermAgain terms → filter_reads fields name (filter_value fields terms) ≡ Ok terms)
filter_written fields name value terms is =
    let items = bind_ok (of_type name (items_of value)) (λ items. read_inside name (each_read (term_item fields) 0 items)) terms is in
    let each = each_at fields 0 items.0 terms (inside_ok name (each_read (term_item fields) 0 items.0) terms items.1.1) in (
      each.0,
      λ again.
          ap (λ found. bind (of_type name found) (λ items. read_inside name (each_read (term_item fields) 0 items))) (items_of-Array (map (term_value fields) terms))
          ∙ ap (read_inside name) (each_again (term_item fields) (term_value fields) 0 terms (each.1 again)),
    )

-- tokens
pub token_value : (fields : List Field) (name : List ℕ) (value : Plain) (token : List ℕ) → token_reads fields name value ≡ Ok token → value ≡ p.Binary 0 token
unfolding token_reads
token_value fields name value token is = by_test (is_reserved name) is
  where
    by_test : (reserved : Bool) → (if reserved then wrong name ReservedName else bind (encrypted_among name (known fields name)) (λ _. fixed_reads 0 32 name value)) ≡ Ok token
        → value ≡ p.Binary 0 token
    by_test true is = absurd (cc)
    by_test false is =
        let found = bind_ok (encrypted_among name (known fields name)) (λ _. fixed_reads 0 32 name value) token is in
        token_is name value (part.Token token) (ap (map_read (λ t. part.Token t)) found.1.1)

token_again : (fields : List Field) (name : List ℕ) (value : Plain) (token : List ℕ) → token_reads fields name value ≡ Ok token → token_reads fields name (p.Binary 0 token) ≡ Ok token
token_again fields name value token is = ap (token_reads fields name) (sym (token_value fields name value token is)) ∙ is

none_asked : (slots : List (Option (List ℕ))) → EachPart (λ _. Unit {0}) slots
none_asked [] = tt
none_asked (None ∷ slots) = none_asked slots
none_asked (Some token ∷ slots) = (tt, none_asked slots)

tokens_as : (path : ℕ → List ℕ) (reads : Reader (List ℕ)) (elements : List Element) (i : ℕ) (fields : List Field) (slots : List (Option (List ℕ)))
    → ((j : ℕ) (field : Field) → slice_get fields j ≡ Some field → path (i + j) ≡ field.path) → AreSlots reads elements (field_rows fields) slots
    → map (λ (token : FieldToken). (path token.field, p.Binary 0 token.token.0)) (tokens_from i slots) ≡ written (λ token. p.Binary 0 token) (field_rows fields) slots
tokens_as path reads elements i [] [] paths each = refl
tokens_as path reads elements i [] (s ∷ slots) paths each = absurd each
tokens_as path reads elements i (field ∷ fields) [] paths each = absurd each
tokens_as path reads elements i (field ∷ fields) (None ∷ slots) paths each =
    tokens_as path reads elements (i + 1) fields slots (λ j f is. let place : i + 1 + j ≡ i + suc j = omega arith in ap path place ∙ paths (suc j) f is) each.1
tokens_as path reads elements i (field ∷ fields) (Some token ∷ slots) paths each =
    let here : path i ≡ field.path = let place : i ≡ i + 0 = omega arith in ap path place ∙ paths 0 field refl in
    let rest = tokens_as path reads elements (i + 1) fields slots (λ j f is. let place : i + 1 + j ≡ i + suc j = omega arith in ap path place ∙ paths (suc j) f is) each.1 in
    ap (λ name. (name, p.Binary 0 token) ∷ map (λ (token : FieldToken). (path token.field, p.Binary 0 token.token.0)) (tokens_from (i + 1) slots)) here
    ∙ ap (λ more. (field.path, p.Binary 0 token) ∷ more) rest

pub record TokenSlots (fields : List Field) (elements : List Element) (tokens : List FieldToken) : Type 0 where
  pub slots : List (Option (List ℕ))
  pub each : AreSlots (token_reads fields) elements (field_rows fields) slots
  pub tokens_are : tokens ≡ tokens_from 0 slots
  pub same : token_elements fields tokens ≡ written (λ token. p.Binary 0 token) (field_rows fields) slots

pub token_slots : (fields : List Field) (elements : List Element) (tokens : List FieldToken) → tokens_of fields elements ≡ Ok tokens → TokenSlots fields elements tokens
unfolding tokens_of
token_slots fields elements tokens is =
    let reads = token_reads fields in
    let rows = field_rows fields in
    let found = map_ok (tokens_from 0) (arranged reads rows elements) tokens is in
    let each = arranged_slots reads rows found.0 elements found.1.0 in
    record {
      slots = found.0;
      each = each;
      tokens_are = found.1.1;
      same = ap (token_elements fields) found.1.1 ∙ tokens_as (path_of fields) reads elements 0 fields found.0 (paths_of fields) each;
    }

pub tokens_written : (fields : List Field) (elements : List Element) (tokens : List FieldToken) → tokens_of fields elements ≡ Ok tokens → Distinct (field_rows fields)
    → Distinct (token_elements fields tokens) × (tokens_of fields (token_elements fields tokens) ≡ Ok tokens)
unfolding tokens_of
tokens_written fields elements tokens is apart =
    let reads = token_reads fields in
    let rows = field_rows fields in
    let found = token_slots fields elements tokens is in
    let spell : List ℕ → Plain = λ token. p.Binary 0 token in (
      subst (λ es. Distinct es) (sym found.same) (written-distinct spell rows found.slots apart),
      ap (built reads rows (tokens_from 0)) found.same
          ∙ written_read reads spell rows (tokens_from 0) found.slots apart
          (spelled reads spell (λ _. Unit {0}) rows found.slots elements (λ name value x is asked. token_again fields name value x is) found.each (none_asked found.slots))
          ∙ ap (λ ts. Ok ts) (sym found.tokens_are),
    )
