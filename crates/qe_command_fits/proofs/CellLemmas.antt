-- Cells and tokens of documents that were read are those of the schema's fields, in their order.
use Rattle.std.proofs.Common.{◌≡◌, ℕ, zero, suc, ◌+◌, ◌<◌, ◌≤◌, ◌==◌, ◌||◌, Bool, true, false, List, [], ◌∷◌, length, map, refl, ap, sym, subst, ◌∙◌, arith, if◌then◌else◌, Option, None, Some, Ok}
use Rattle.std.specs.Prelude.{bytes_eq, slice_get, slice_index}
use Rattle.std.specs.List.{AllByRecursion}
use Rattle.std.specs.List.Sorted.{IsStrictlyIncreasing}
use Rattle.std.proofs.lemmas.Bool.{eqb-true}
use Rattle.qe_value.specs.declared.value.Plain.{Plain}
use Rattle.qe_value.specs.declared.value.Plain.TheVariants as p
use Rattle.qe_document.specs.Names.{Distinct}
use Rattle.qe_store.specs.Cells.{AreRising}
use Rattle.qe_tokens.specs.declared.words.FieldToken.{FieldToken}
use Rattle.qe_field.specs.declared.field.Field.{Field}
use Rattle.qe_field.specs.declared.field.FieldKind.{FieldKind}
use Rattle.qe_field.specs.declared.field.FieldKind.TheVariants as k
use Rattle.qe_field.specs.Lookup.{known, is_encrypted}
use Rattle.qe_field.specs.Names.{is_reserved}
use Rattle.qe_layout.specs.declared.malformed.Kind.TheVariants.{NotInSchema, ReservedName, WrongLength, WrongType}
use Rattle.qe_layout.specs.Layouts.{Element, Reader, AreSlots, slot, slots_of}
use Rattle.qe_layout.specs.Leaves.{fixed_reads}
use Rattle.qe_layout.specs.Refusal.{wrong, bind, map_read}
use Rattle.qe_document.specs.Names.{value_named}
use Rattle.qe_layout.specs.declared.malformed.Kind.TheVariants.{Missing}
use Rattle.qe_parts.proofs.FormLemmas.{map_ok, bind_ok, read_slots, held}
use Rattle.qe_command.specs.declared.cells.SentCell.{SentCell}
use Rattle.qe_command.specs.declared.cells.SentCell.TheVariants as sent
use Rattle.qe_command_document.specs.declared.part.CellPart.{CellPart}
use Rattle.qe_command_document.specs.declared.part.CellPart.TheVariants as part
use Rattle.qe_command_document.specs.declared.part.Doc.{Doc}
use Rattle.qe_command_document.specs.Values.{value_of}
use Rattle.qe_command_document.specs.Payloads.{insert_reads_of}
use Rattle.qe_command_document.specs.CellDocuments.{id_name, id_reads, id_in, sent_reads, field_reads, doc_reads, set_reads, field_rows, doc_rows, doc_build, cells_from, doc_of, set_of, encrypted_among, token_reads, tokens_from, tokens_of}
use Rattle.qe_command_fits.specs.OfSchema.{IsIdValue, IsFieldAt, IsCellOf, AreCellsOf, AreTokensOf}
use Rattle.qe_command_fits.proofs.FieldLemmas.{get_below, own_known}
use Rattle.qe_command_fits.proofs.IdLemmas.{id_read}
use Rattle.qe_command_fits.proofs.PayloadLemmas.{insert_of_field}

-- a cell is of the kind under which it was read
sent_of : (kind : FieldKind) (name : List ℕ) (value : Plain) (cell : SentCell) → sent_reads kind name value ≡ Ok cell → IsCellOf cell kind
sent_of k.Plain name value cell is =
    let same : sent.Plain (value_of value) ≡ cell = cc in
    subst (λ c. IsCellOf c k.Plain) same tt
sent_of (k.Equality id kind contention greatest) name value cell is =
    let found = map_ok (λ payload. sent.Payload payload) (insert_reads_of false id kind greatest name value) cell is in
    subst (λ c. IsCellOf c (k.Equality id kind contention greatest)) (sym found.1.1) (insert_of_field false id kind greatest name value found.0 found.1.0)
sent_of (k.Range id kind contention greatest domain) name value cell is =
    let found = map_ok (λ payload. sent.Payload payload) (insert_reads_of true id kind greatest name value) cell is in
    subst (λ c. IsCellOf c (k.Range id kind contention greatest domain)) (sym found.1.1) (insert_of_field true id kind greatest name value found.0 found.1.0)

-- under a name something of a kind was read
abbrev pub OfKnown : List Field → List ℕ → (FieldKind → Type 0) → Type 0
OfKnown fields name Holds = (f : ℕ × FieldKind) × ((known fields name ≡ Some f) × Holds f.1)

-- and the name is that of the field of a number
pub known_at : (fields : List Field) (i : ℕ) (field : Field) (Holds : FieldKind → Type 0) → Distinct (field_rows fields) → slice_get fields i ≡ Some field
    → OfKnown fields field.path Holds → IsFieldAt fields i Holds
known_at fields i field Holds apart there of =
    let place : 0 + i ≡ i = omega arith in
    let own : known fields field.path ≡ Some (i, field.kind) = own_known 0 fields i field apart there ∙ ap (λ n. Some (n, field.kind)) place in
    let both : Some of.0 ≡ Some (i, field.kind) = sym of.1.0 ∙ own in
    let same : of.0 ≡ (i, field.kind) = cc in
    record { below = get_below fields i field there; field = field; there = there; kind = subst (λ (f : ℕ × FieldKind). Holds f.1) same of.1.1 }

abbrev CellReads : List Field → Reader CellPart → Type 0
CellReads fields reads = (name : List ℕ) (value : Plain) (cell : SentCell) → reads name value ≡ Ok (part.Cell cell) → OfKnown fields name (IsCellOf cell)

field_cell : (fields : List Field) (name : List ℕ) (value : Plain) (cell : SentCell) (found : Option (ℕ × FieldKind)) → known fields name ≡ found
    → field_reads found name value ≡ Ok (part.Cell cell) → OfKnown fields name (IsCellOf cell)
field_cell fields name value cell None at is = absurd (cc)
field_cell fields name value cell (Some f) at is =
    let read = map_ok (λ c. part.Cell c) (sent_reads f.1 name value) (part.Cell cell) is in
    let wrapped : part.Cell cell ≡ part.Cell read.0 = read.1.1 in
    let same : read.0 ≡ cell = cc in
    (f, (at, sent_of f.1 name value cell (read.1.0 ∙ ap (λ c. Ok c) same)))

doc_cells : (fields : List Field) → CellReads fields (doc_reads fields)
unfolding doc_reads
doc_cells fields name value cell is = by_tests (is_reserved name) (bytes_eq name id_name) is
  where
    by_tests : (reserved own : Bool)
        → (if reserved then wrong name ReservedName else (if own then map_read (λ id. part.Id id) (id_reads name value) else field_reads (known fields name) name value)) ≡ Ok (part.Cell cell)
        → OfKnown fields name (IsCellOf cell)
    by_tests true own is = absurd (cc)
    by_tests false true is =
        let read = map_ok (λ id. part.Id id) (id_reads name value) (part.Cell cell) is in
        let no : part.Cell cell ≡ part.Id read.0 = read.1.1 in
        absurd (cc)
    by_tests false false is = field_cell fields name value cell (known fields name) refl is

set_cells : (fields : List Field) → CellReads fields (set_reads fields)
unfolding set_reads
set_cells fields name value cell is = by_test (is_reserved name || bytes_eq name id_name) is
  where
    by_test : (reserved : Bool) → (if reserved then wrong name ReservedName else field_reads (known fields name) name value) ≡ Ok (part.Cell cell) → OfKnown fields name (IsCellOf cell)
    by_test true is = absurd (cc)
    by_test false is = field_cell fields name value cell (known fields name) refl is

-- the fields of a table are those of the schema from a number on
abbrev AreBehind : List Field → ℕ → List Field → Type 0
AreBehind all i fields = (j : ℕ) (field : Field) → slice_get fields j ≡ Some field → slice_get all (i + j) ≡ Some field

behind_next : (all : List Field) (i : ℕ) (field : Field) (fields : List Field) → AreBehind all i (field ∷ fields) → AreBehind all (i + 1) fields
behind_next all i field fields behind j f is =
    let place : i + 1 + j ≡ i + suc j = omega arith in
    ap (slice_get all) place ∙ behind (suc j) f is

behind_here : (all : List Field) (i : ℕ) (field : Field) (fields : List Field) → AreBehind all i (field ∷ fields) → slice_get all i ≡ Some field
behind_here all i field fields behind = let place : i ≡ i + 0 = omega arith in ap (slice_get all) place ∙ behind 0 field refl

all_behind : (fields : List Field) → AreBehind fields 0 fields
all_behind fields j field is = let place : 0 + j ≡ j = omega arith in ap (slice_get fields) place ∙ is

cells_each : (all : List Field) (reads : Reader CellPart) (elements : List Element) (i : ℕ) (fields : List Field) (slots : List (Option CellPart))
    → Distinct (field_rows all) → CellReads all reads → AreBehind all i fields → AreSlots reads elements (field_rows fields) slots
    → AllByRecursion (λ cell. IsFieldAt all cell.0 (IsCellOf cell.1)) (cells_from i slots)
cells_each all reads elements i [] [] apart read behind each = tt
cells_each all reads elements i [] (s ∷ slots) apart read behind each = absurd each
cells_each all reads elements i (field ∷ fields) [] apart read behind each = absurd each
cells_each all reads elements i (field ∷ fields) (None ∷ slots) apart read behind each =
    cells_each all reads elements (i + 1) fields slots apart read (behind_next all i field fields behind) each.1
cells_each all reads elements i (field ∷ fields) (Some (part.Id id) ∷ slots) apart read behind each =
    cells_each all reads elements (i + 1) fields slots apart read (behind_next all i field fields behind) each.1
cells_each all reads elements i (field ∷ fields) (Some (part.Cell cell) ∷ slots) apart read behind each = (
  known_at all i field (IsCellOf cell) apart (behind_here all i field fields behind) (read field.path each.0.0 cell each.0.1.1),
  cells_each all reads elements (i + 1) fields slots apart read (behind_next all i field fields behind) each.1,
)

-- numbers rise
increasing_behind : (x : ℕ) (xs : List ℕ) → ((k : ℕ) → k < length xs → x < slice_index xs k) → IsStrictlyIncreasing xs → IsStrictlyIncreasing (x ∷ xs)
increasing_behind x xs first rising zero less = first 0 (omega (arith, less))
increasing_behind x xs first rising (suc k) less =
    let place : suc (k + 1) ≡ suc k + 1 = omega arith in
    subst (λ (n : ℕ). slice_index xs k < slice_index (x ∷ xs) n) place (rising k (omega (arith, less)))

cells_least : (i : ℕ) (slots : List (Option CellPart)) (k : ℕ) → k < length (map (λ (c : ℕ × SentCell). c.0) (cells_from i slots))
    → i ≤ slice_index (map (λ (c : ℕ × SentCell). c.0) (cells_from i slots)) k
cells_least i [] k less = absurd (omega (arith, less))
cells_least i (None ∷ slots) k less = let more = cells_least (i + 1) slots k less in omega (arith, more)
cells_least i (Some (part.Id id) ∷ slots) k less = let more = cells_least (i + 1) slots k less in omega (arith, more)
cells_least i (Some (part.Cell cell) ∷ slots) zero less = omega arith
cells_least i (Some (part.Cell cell) ∷ slots) (suc k) less =
    let more = cells_least (i + 1) slots k (omega (arith, less)) in
    omega (arith, more)

cells_rise : (i : ℕ) (slots : List (Option CellPart)) → AreRising (cells_from i slots)
cells_rise i [] k less = absurd (omega (arith, less))
cells_rise i (None ∷ slots) k less = cells_rise (i + 1) slots k less
cells_rise i (Some (part.Id id) ∷ slots) k less = cells_rise (i + 1) slots k less
cells_rise i (Some (part.Cell cell) ∷ slots) k less =
    increasing_behind i (map (λ (c : ℕ × SentCell). c.0) (cells_from (i + 1) slots))
    (λ j within. let more = cells_least (i + 1) slots j within in omega (arith, more)) (cells_rise (i + 1) slots) k less

-- a document that is inserted, and a set
id_part : (fields : List Field) (value : Plain) (x : CellPart) → doc_reads fields id_name value ≡ Ok x → IsIdValue (id_in (Some x))
unfolding doc_reads
id_part fields value x is =
    let found = map_ok (λ id. part.Id id) (id_reads id_name value) x is in
    subst (λ y. IsIdValue (id_in (Some y))) (sym found.1.1) (id_read id_name value found.0 found.1.0)

pub doc_fits : (fields : List Field) (elements : List Element) (doc : Doc) → Distinct (field_rows fields) → doc_of fields elements ≡ Ok doc
    → IsIdValue doc.id × AreCellsOf fields doc.cells
unfolding doc_of
doc_fits fields elements doc apart is =
    let reads = doc_reads fields in
    let found = read_slots reads (doc_rows fields) doc_build doc elements is in
    let cells = slots_of reads (field_rows fields) elements in
    subst (λ (d : Doc). IsIdValue d.id × AreCellsOf fields d.cells) (sym found.0) (
      held reads elements id_name Missing (λ s. IsIdValue (id_in s)) (λ value x is. id_part fields value x is) (slot reads id_name (value_named id_name elements)) found.1.0,
      record { rising = cells_rise 0 cells; each = cells_each fields reads elements 0 fields cells apart (doc_cells fields) (all_behind fields) found.1.1 },
    )

pub set_fits : (fields : List Field) (elements : List Element) (set : List (ℕ × SentCell)) → Distinct (field_rows fields) → set_of fields elements ≡ Ok set
    → AreCellsOf fields set
unfolding set_of
set_fits fields elements set apart is =
    let reads = set_reads fields in
    let found = read_slots reads (field_rows fields) (cells_from 0) set elements is in
    let cells = slots_of reads (field_rows fields) elements in
    subst (λ s. AreCellsOf fields s) (sym found.0)
    (record { rising = cells_rise 0 cells; each = cells_each fields reads elements 0 fields cells apart (set_cells fields) (all_behind fields) found.1 })

-- tokens
pub encrypted_is : (name : List ℕ) (found : Option (ℕ × FieldKind)) (out : ℕ × FieldKind) → encrypted_among name found ≡ Ok out
    → (found ≡ Some out) × (is_encrypted out.1 ≡ true)
encrypted_is name None out is = absurd (cc)
encrypted_is name (Some given) out is = by_test (is_encrypted given.1) refl is
  where
    by_test : (b : Bool) → is_encrypted given.1 ≡ b → (if b then Ok given else wrong name NotInSchema) ≡ Ok out → (Some given ≡ Some out) × (is_encrypted out.1 ≡ true)
    by_test true one is =
        let same : given ≡ out = cc in
        (ap (λ g. Some g) same, subst (λ (g : ℕ × FieldKind). is_encrypted g.1 ≡ true) same one)
    by_test false other is = absurd (cc)

fixed_long : (name : List ℕ) (value : Plain) (bytes : List ℕ) → fixed_reads 0 32 name value ≡ Ok bytes → length bytes ≡ 32
fixed_long name (p.Binary s b) bytes is = by_tests (s == 0) (length b == 32) refl is
  where
    by_tests : (same long : Bool) → (length b == 32) ≡ long → (if same then (if long then Ok b else wrong name (WrongLength (length b))) else wrong name WrongType) ≡ Ok bytes
        → length bytes ≡ 32
    by_tests true true long is = let same : b ≡ bytes = cc in subst (λ (x : List ℕ). length x ≡ 32) same (eqb-true (length b) 32 long)
    by_tests true false long is = absurd (cc)
    by_tests false big long is = absurd (cc)
fixed_long name _ bytes is = absurd (cc)

token_of : (fields : List Field) (name : List ℕ) (value : Plain) (token : List ℕ) → token_reads fields name value ≡ Ok token
    → OfKnown fields name (λ kind. is_encrypted kind ≡ true) × (length token ≡ 32)
unfolding token_reads
token_of fields name value token is = by_test (is_reserved name) is
  where
    by_test : (reserved : Bool) → (if reserved then wrong name ReservedName else bind (encrypted_among name (known fields name)) (λ _. fixed_reads 0 32 name value)) ≡ Ok token
        → OfKnown fields name (λ kind. is_encrypted kind ≡ true) × (length token ≡ 32)
    by_test true is = absurd (cc)
    by_test false is =
        let found = bind_ok (encrypted_among name (known fields name)) (λ _. fixed_reads 0 32 name value) token is in
        ((found.0, encrypted_is name (known fields name) found.0 found.1.0), fixed_long name value token found.1.1)

tokens_each : (all : List Field) (elements : List Element) (i : ℕ) (fields : List Field) (slots : List (Option (List ℕ))) → Distinct (field_rows all)
    → AreBehind all i fields → AreSlots (token_reads all) elements (field_rows fields) slots
    → AllByRecursion (λ (sent : FieldToken). IsFieldAt all sent.field (λ kind. is_encrypted kind ≡ true)) (tokens_from i slots)
    × AllByRecursion (λ (sent : FieldToken). length sent.token.0 ≡ 32) (tokens_from i slots)
tokens_each all elements i [] [] apart behind each = (tt, tt)
tokens_each all elements i [] (s ∷ slots) apart behind each = absurd each
tokens_each all elements i (field ∷ fields) [] apart behind each = absurd each
tokens_each all elements i (field ∷ fields) (None ∷ slots) apart behind each =
    tokens_each all elements (i + 1) fields slots apart (behind_next all i field fields behind) each.1
tokens_each all elements i (field ∷ fields) (Some token ∷ slots) apart behind each =
    let here = token_of all field.path each.0.0 token each.0.1.1 in
    let rest = tokens_each all elements (i + 1) fields slots apart (behind_next all i field fields behind) each.1 in
    ((known_at all i field (λ kind. is_encrypted kind ≡ true) apart (behind_here all i field fields behind) here.0, rest.0), (here.1, rest.1))

tokens_least : (i : ℕ) (slots : List (Option (List ℕ))) (k : ℕ) → k < length (map (λ (sent : FieldToken). sent.field) (tokens_from i slots))
    → i ≤ slice_index (map (λ (sent : FieldToken). sent.field) (tokens_from i slots)) k
tokens_least i [] k less = absurd (omega (arith, less))
tokens_least i (None ∷ slots) k less = let more = tokens_least (i + 1) slots k less in omega (arith, more)
tokens_least i (Some token ∷ slots) zero less = omega arith
tokens_least i (Some token ∷ slots) (suc k) less =
    let more = tokens_least (i + 1) slots k (omega (arith, less)) in
    omega (arith, more)

tokens_rise : (i : ℕ) (slots : List (Option (List ℕ))) → IsStrictlyIncreasing (map (λ (sent : FieldToken). sent.field) (tokens_from i slots))
tokens_rise i [] k less = absurd (omega (arith, less))
tokens_rise i (None ∷ slots) k less = tokens_rise (i + 1) slots k less
tokens_rise i (Some token ∷ slots) k less =
    increasing_behind i (map (λ (sent : FieldToken). sent.field) (tokens_from (i + 1) slots))
    (λ j within. let more = tokens_least (i + 1) slots j within in omega (arith, more)) (tokens_rise (i + 1) slots) k less

pub tokens_fit : (fields : List Field) (elements : List Element) (tokens : List FieldToken) → Distinct (field_rows fields) → tokens_of fields elements ≡ Ok tokens
    → AreTokensOf fields tokens
unfolding tokens_of
tokens_fit fields elements tokens apart is =
    let reads = token_reads fields in
    let found = read_slots reads (field_rows fields) (tokens_from 0) tokens elements is in
    let slots = slots_of reads (field_rows fields) elements in
    let each = tokens_each fields elements 0 fields slots apart (all_behind fields) found.1 in
    subst (λ ts. AreTokensOf fields ts) (sym found.0) (record { rising = tokens_rise 0 slots; each = each.0; long = each.1 })
