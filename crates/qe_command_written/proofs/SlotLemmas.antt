-- The elements of commands: what was read under each name is written and read again.
use Rattle.std.proofs.Common.{◌≡◌, ℕ, ℤ, pos, negsuc, ◌<◌, ◌^◌, ◌&&◌, Bool, true, false, List, refl, ap, sym, subst, ◌∙◌, arith, inl, inr, if◌then◌else◌, Option, None, Some, Ok}
use Rattle.std.specs.Prelude.{bytes_eq, codes, nat_abs, int_le, FitsSigned}
use Rattle.std.specs.Int.{w32}
use Rattle.std.specs.List.{AllByRecursion}
use Rattle.std.proofs.lemmas.Bool.{cases_Bool, cond-true, cond-false}
use Rattle.std.proofs.lemmas.Slice.Eq.{bytes_eq-Decides}
use Rattle.qe_base.specs.declared.maintenance.JobKind.{JobKind}
use Rattle.qe_base.specs.declared.maintenance.JobKind.TheVariants.{Compact, Cleanup}
use Rattle.qe_value.specs.declared.value.Plain.{Plain}
use Rattle.qe_value.specs.declared.value.Plain.TheVariants as p
use Rattle.qe_value.proofs.PlainLemmas.{out-Int32}
use Rattle.qe_encode.proofs.FlatLemmas.{writing_laws}
use Rattle.qe_document.specs.Names.{Distinct, value_named}
use Rattle.qe_document.specs.Spelling.{IsDocument, FieldsFit, ItemsFit, Fits_with}
use Rattle.qe_document.specs.Views.{fields_of}
use Rattle.qe_tokens.specs.declared.words.FieldToken.{FieldToken}
use Rattle.qe_field.specs.declared.field.Field.{Field}
use Rattle.qe_field.specs.declared.field.FieldKind.{FieldKind}
use Rattle.qe_field.specs.Lookup.{known, path_of}
use Rattle.qe_field.specs.Schema.{IsSchema}
use Rattle.qe_field.specs.Values.{text_in}
use Rattle.qe_layout.specs.declared.malformed.Kind.{Kind}
use Rattle.qe_layout.specs.declared.malformed.Kind.TheVariants.{BadLimit}
use Rattle.qe_layout.specs.Documents.{of_type, document_reads}
use Rattle.qe_layout.specs.Layouts.{Element, Reader, IsSlot}
use Rattle.qe_layout.specs.Leaves.{int32_reads}
use Rattle.qe_layout.specs.Refusal.{wrong, map_read, read_inside}
use Rattle.qe_parts.proofs.EntryLemmas.{document_again}
use Rattle.qe_parts.proofs.FormLemmas.{map_ok, bind_ok, inside_ok}
use Rattle.qe_parts.proofs.NamedLemmas.{type_ok}
use Rattle.qe_command.specs.declared.cells.SentCell.{SentCell}
use Rattle.qe_command.specs.declared.filter.SentTerm.{SentTerm}
use Rattle.qe_command_document.specs.declared.part.Doc.{Doc}
use Rattle.qe_command_document.specs.declared.part.Part.{Part}
use Rattle.qe_command_document.specs.declared.part.Part.TheVariants as part
use Rattle.qe_command_document.specs.CellDocuments.{encrypted_among, doc_of, set_of, tokens_of}
use Rattle.qe_command_document.specs.CommandDocument.{flag_in, kind_named, kind_reads, limit_reads, limit_within, named_field, path_reads, plain_reads, element_reads}
use Rattle.qe_command_document.specs.FilterArrays.{filter_reads}
use Rattle.qe_command_document.proofs.SchemaLemmas.{rows_apart}
use Rattle.qe_command_fits.proofs.CellLemmas.{encrypted_is}
use Rattle.qe_command_fits.proofs.ElementLemmas.{number_from}
use Rattle.qe_command_fits.proofs.FieldLemmas.{known_path}
use Rattle.qe_command_written.specs.Parts.{FitsCell, CellAgain, FitsTerm, TermAgain}
use Rattle.qe_command_written.specs.Written.{doc_elements, cell_elements, filter_value, token_elements, kind_name}
use Rattle.qe_command_written.proofs.CellLemmas.{doc_written, set_written}
use Rattle.qe_command_written.proofs.TermLemmas.{filter_written, tokens_written}

-- what a needed slot holds
pub needed_slot : {A : Type 0} (reads : Reader A) (elements : List Element) (name : List ℕ) (kind : Kind) (s : Option A) → IsSlot reads elements (name, Some kind) s
    → (x : A) × ((s ≡ Some x) × ((value : Plain) × ((value_named name elements ≡ Some value) × (reads name value ≡ Ok x))))
needed_slot reads elements name kind None is = let no = is.0 in absurd (cc)
needed_slot reads elements name kind (Some x) is = (x, (refl, is))

-- a number of a document has its bits
pub fits_32 : (elements : List Element) (name : List ℕ) (n : ℕ) → IsDocument elements → value_named name elements ≡ Some (p.Int32 (pos n)) → n < 2 ^ 31
unfolding FieldsFit
fits_32 elements name n document found =
    let alone = writing_laws.alone elements name (p.Int32 (pos n)) document found in
    let signed : FitsSigned w32 (pos n) = subst (λ o. Fits_with (FieldsFit 99) (ItemsFit 99) o) (out-Int32 (pos n)) alone.fits.1.0.1 in
    omega (arith, signed)

pub doc_slot : (fields : List Field) (value : Plain) (x : Part) → IsSchema fields → element_reads fields (codes "doc") value ≡ Ok x
    → (d : Doc) × ((x ≡ part.Doc d) × (AllByRecursion (λ c. FitsCell c.1) d.cells × (Distinct (doc_elements fields d.id d.cells)
    × (AllByRecursion (λ c. CellAgain c.1) d.cells → element_reads fields (codes "doc") (p.Doc (doc_elements fields d.id d.cells)) ≡ Ok (part.Doc d)))))
unfolding element_reads
doc_slot fields value x schema is =
    let name = codes "doc" in
    let found = map_ok (λ d. part.Doc d) (document_reads (doc_of fields) name value) x is in
    let inner = bind_ok (of_type name (fields_of value)) (λ es. read_inside name (doc_of fields es)) found.0 found.1.0 in
    let w = doc_written fields inner.0 found.0 (inside_ok name (doc_of fields inner.0) found.0 inner.1.1) (rows_apart fields schema) in (
      found.0,
      (
        found.1.1,
        (w.0, (w.1.0, λ again. ap (map_read (λ d. part.Doc d)) (document_again (doc_of fields) name (doc_elements fields found.0.id found.0.cells) found.0 (w.1.1 again)))),
      ),
    )

pub set_slot : (fields : List Field) (value : Plain) (x : Part) → IsSchema fields → element_reads fields (codes "set") value ≡ Ok x
    → (set : List (ℕ × SentCell)) × ((x ≡ part.Set set) × (AllByRecursion (λ c. FitsCell c.1) set × (Distinct (cell_elements fields set)
    × (AllByRecursion (λ c. CellAgain c.1) set → element_reads fields (codes "set") (p.Doc (cell_elements fields set)) ≡ Ok (part.Set set)))))
unfolding element_reads
set_slot fields value x schema is =
    let name = codes "set" in
    let found = map_ok (λ set. part.Set set) (document_reads (set_of fields) name value) x is in
    let inner = bind_ok (of_type name (fields_of value)) (λ es. read_inside name (set_of fields es)) found.0 found.1.0 in
    let w = set_written fields inner.0 found.0 (inside_ok name (set_of fields inner.0) found.0 inner.1.1) (rows_apart fields schema).1 in (
      found.0,
      (
        found.1.1,
        (w.0, (w.1.0, λ again. ap (map_read (λ set. part.Set set)) (document_again (set_of fields) name (cell_elements fields found.0) found.0 (w.1.1 again)))),
      ),
    )

pub filter_slot : (fields : List Field) (value : Plain) (x : Part) → element_reads fields (codes "filter") value ≡ Ok x
    → (terms : List SentTerm) × ((x ≡ part.Filter terms) × (AllByRecursion FitsTerm terms
    × (AllByRecursion TermAgain terms → element_reads fields (codes "filter") (filter_value fields terms) ≡ Ok (part.Filter terms))))
unfolding element_reads
filter_slot fields value x is =
    let name = codes "filter" in
    let found = map_ok (λ terms. part.Filter terms) (filter_reads fields name value) x is in
    let w = filter_written fields name value found.0 found.1.0 in
    (found.0, (found.1.1, (w.0, λ again. ap (map_read (λ terms. part.Filter terms)) (w.1 again))))

pub tokens_slot : (fields : List Field) (value : Plain) (x : Part) → IsSchema fields → element_reads fields (codes "tokens") value ≡ Ok x
    → (tokens : List FieldToken) × ((x ≡ part.Tokens tokens) × (Distinct (token_elements fields tokens)
    × (element_reads fields (codes "tokens") (p.Doc (token_elements fields tokens)) ≡ Ok (part.Tokens tokens))))
unfolding element_reads
tokens_slot fields value x schema is =
    let name = codes "tokens" in
    let found = map_ok (λ tokens. part.Tokens tokens) (document_reads (tokens_of fields) name value) x is in
    let inner = bind_ok (of_type name (fields_of value)) (λ es. read_inside name (tokens_of fields es)) found.0 found.1.0 in
    let w = tokens_written fields inner.0 found.0 (inside_ok name (tokens_of fields inner.0) found.0 inner.1.1) (rows_apart fields schema).1 in
    (found.0, (found.1.1, (w.0, ap (map_read (λ tokens. part.Tokens tokens)) (document_again (tokens_of fields) name (token_elements fields found.0) found.0 w.1))))

-- a value that was read as one type
pub text_is : (value : Plain) (name : List ℕ) → text_in value ≡ Some name → value ≡ p.Str name
text_is (p.Str text) name is = let same : text ≡ name = cc in ap (λ t. p.Str t) same
text_is _ name is = absurd (cc)

flag_is : (value : Plain) (flag : Bool) → flag_in value ≡ Some flag → value ≡ p.Bool flag
flag_is (p.Bool b) flag is = let same : b ≡ flag = cc in ap (λ t. p.Bool t) same
flag_is _ flag is = absurd (cc)

pub ids_slot : (fields : List Field) (value : Plain) (x : Part) → element_reads fields (codes "ids") value ≡ Ok x
    → (ids : Bool) × ((x ≡ part.Ids ids) × ((value ≡ p.Bool ids) × (element_reads fields (codes "ids") (p.Bool ids) ≡ Ok (part.Ids ids))))
unfolding element_reads plain_reads
ids_slot fields value x is =
    let found = map_ok (λ ids. part.Ids ids) (of_type (codes "ids") (flag_in value)) x is in
    (found.0, (found.1.1, (flag_is value found.0 (type_ok (codes "ids") (flag_in value) found.0 found.1.0), refl)))

kind_text : (text : List ℕ) (kind : JobKind) → kind_named text ≡ Some kind → text ≡ kind_name kind
kind_text text kind is =
    elim (cases_Bool (bytes_eq text (codes "compact"))) [
      | inl same ↦
          let both : Some Compact ≡ Some kind = sym (cond-true (bytes_eq text (codes "compact")) (Some Compact) _ same) ∙ is in
          let one : Compact ≡ kind = cc in
          (bytes_eq-Decides text (codes "compact")).0 same ∙ ap kind_name one
      | inr other ↦
          let more = sym (cond-false (bytes_eq text (codes "compact")) (Some Compact) (if bytes_eq text (codes "cleanup") then Some Cleanup else None) other) ∙ is in
          elim (cases_Bool (bytes_eq text (codes "cleanup"))) [
            | inl same ↦
                let both : Some Cleanup ≡ Some kind = sym (cond-true (bytes_eq text (codes "cleanup")) (Some Cleanup) None same) ∙ more in
                let one : Cleanup ≡ kind = cc in
                (bytes_eq-Decides text (codes "cleanup")).0 same ∙ ap kind_name one
            | inr unknown ↦
                let none : None ≡ Some kind = sym (cond-false (bytes_eq text (codes "cleanup")) (Some Cleanup) None unknown) ∙ more in
                absurd (cc)
          ]
    ]

pub kind_slot : (fields : List Field) (value : Plain) (x : Part) → element_reads fields (codes "kind") value ≡ Ok x
    → (kind : JobKind) × ((x ≡ part.Kind kind) × ((value ≡ p.Str (kind_name kind)) × (element_reads fields (codes "kind") (p.Str (kind_name kind)) ≡ Ok (part.Kind kind))))
unfolding element_reads plain_reads
kind_slot fields value x is =
    let name = codes "kind" in
    let found = map_ok (λ kind. part.Kind kind) (kind_reads name value) x is in
    let text = bind_ok (of_type name (text_in value)) (λ text. of_type name (kind_named text)) found.0 found.1.0 in
    let same : value ≡ p.Str (kind_name found.0) =
    text_is value text.0 (type_ok name (text_in value) text.0 text.1.0)
    ∙ ap (λ t. p.Str t) (kind_text text.0 found.0 (type_ok name (kind_named text.0) found.0 text.1.1)) in
    (found.0, (found.1.1, (same, ap (λ v. map_read (λ kind. part.Kind kind) (kind_reads name v)) (sym same) ∙ is ∙ ap (λ y. Ok y) found.1.1)))

pub job_slot : (fields : List Field) (value : Plain) (x : Part) → element_reads fields (codes "job") value ≡ Ok x
    → (n : ℕ) × ((x ≡ part.Number n) × ((value ≡ p.Int64 (pos n)) × (element_reads fields (codes "job") (p.Int64 (pos n)) ≡ Ok (part.Number n))))
unfolding element_reads plain_reads
job_slot fields value x is = let found = number_from (codes "job") value x is in (found.0, (found.1.0, (found.1.1, refl)))

pub contention_slot : (fields : List Field) (value : Plain) (x : Part) → element_reads fields (codes "contention") value ≡ Ok x
    → (n : ℕ) × ((x ≡ part.Number n) × ((value ≡ p.Int64 (pos n)) × (element_reads fields (codes "contention") (p.Int64 (pos n)) ≡ Ok (part.Number n))))
unfolding element_reads plain_reads
contention_slot fields value x is = let found = number_from (codes "contention") value x is in (found.0, (found.1.0, (found.1.1, refl)))

int32_is : (name : List ℕ) (value : Plain) (z : ℤ) → int32_reads name value ≡ Ok z → value ≡ p.Int32 z
int32_is name (p.Int32 z) y is = let same : z ≡ y = cc in ap (λ n. p.Int32 n) same
int32_is name _ y is = absurd (cc)

limit_is : (name : List ℕ) (z : ℤ) (n : ℕ) → limit_within name z ≡ Ok n → z ≡ pos n
limit_is name (pos m) n is = by_test (int_le (pos 1) (pos m) && int_le (pos m) (pos 65536)) is
  where
    by_test : (b : Bool) → (if b then Ok (nat_abs (pos m)) else wrong name (BadLimit (pos m))) ≡ Ok n → pos m ≡ pos n
    by_test true is = let same : m ≡ n = cc in ap (λ k. pos k) same
    by_test false is = absurd (cc)
limit_is name (negsuc m) n is = absurd (cc)

pub limit_slot : (fields : List Field) (value : Plain) (x : Part) → element_reads fields (codes "limit") value ≡ Ok x
    → (n : ℕ) × ((x ≡ part.Limit n) × ((value ≡ p.Int32 (pos n)) × (element_reads fields (codes "limit") (p.Int32 (pos n)) ≡ Ok (part.Limit n))))
unfolding element_reads plain_reads
limit_slot fields value x is =
    let name = codes "limit" in
    let found = map_ok (λ limit. part.Limit limit) (limit_reads name value) x is in
    let number = bind_ok (int32_reads name value) (limit_within name) found.0 found.1.0 in
    let same : value ≡ p.Int32 (pos found.0) = int32_is name value number.0 number.1.0 ∙ ap (λ z. p.Int32 z) (limit_is name number.0 found.0 number.1.1) in
    (found.0, (found.1.1, (same, ap (λ v. map_read (λ limit. part.Limit limit) (limit_reads name v)) (sym same) ∙ is ∙ ap (λ y. Ok y) found.1.1)))

pub field_slot : (fields : List Field) (value : Plain) (x : Part) → element_reads fields (codes "field") value ≡ Ok x
    → (n : ℕ) × ((x ≡ part.Field n) × ((value ≡ p.Str (path_of fields n)) × (element_reads fields (codes "field") (p.Str (path_of fields n)) ≡ Ok (part.Field n))))
unfolding element_reads plain_reads
field_slot fields value x is =
    let name = codes "field" in
    let found = map_ok (λ field. part.Field field) (path_reads fields name value) x is in
    let text = bind_ok (of_type name (text_in value)) (named_field fields name) found.0 found.1.0 in
    let field = map_ok (λ (f : ℕ × FieldKind). f.0) (encrypted_among name (known fields text.0)) found.0 text.1.1 in
    let same : text.0 ≡ path_of fields found.0 =
    known_path fields text.0 field.0.0 field.0.1 (encrypted_is name (known fields text.0) field.0 field.1.0).0 ∙ ap (path_of fields) (sym field.1.1) in
    let value_is : value ≡ p.Str (path_of fields found.0) = text_is value text.0 (type_ok name (text_in value) text.0 text.1.0) ∙ ap (λ path. p.Str path) same in
    (found.0, (found.1.1, (value_is, ap (λ path. map_read (λ field. part.Field field) (named_field fields name path)) (sym same) ∙ ap (map_read (λ field. part.Field field)) text.1.1)))
