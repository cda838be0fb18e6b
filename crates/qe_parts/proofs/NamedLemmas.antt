-- What was read of a value under a name says which value it is.
use Rattle.std.proofs.Common.{◌≡◌, ℕ, ◌+◌, ℤ, pos, negsuc, ◌==◌, nat_lt, Bool, true, false, List, [], ◌∷◌, length, refl, ap, sym, subst, ◌∙◌, if◌then◌else◌, Option, None, Some, Result, Ok}
use Rattle.std.specs.Prelude.{decimal}
use Rattle.std.specs.Ordering.{int_eq}
use Rattle.std.proofs.lemmas.Bool.{eqb-true}
use Rattle.std.proofs.lemmas.Bool.Decides.{Decides-int_eq}
use Rattle.qe_document.specs.Names.{value_named}
use Rattle.qe_document.specs.Views.{fields_of, fields_open, items_of, items_open}
use Rattle.qe_value.specs.declared.value.Plain.{Plain, roll-Plain, out-Plain}
use Rattle.qe_value.specs.declared.value.Plain.TheOpen.{Plain-F}
use Rattle.qe_value.specs.declared.value.Plain.TheVariants as p
use Rattle.qe_value.proofs.PlainLemmas.{out-Doc, out-Array, rolled}
use Rattle.qe_ecoc.specs.declared.forms.Cipher.{Cipher}
use Rattle.qe_ecoc.specs.declared.forms.Cipher.TheVariants.{Old, Leaf}
use Rattle.qe_ecoc.specs.Forms.{cipher_bytes, cipher_from}
use Rattle.qe_layout.specs.declared.malformed.Kind.{Kind}
use Rattle.qe_layout.specs.declared.malformed.Kind.TheVariants.{ProfileOperator, WrongLength, WrongType}
use Rattle.qe_layout.specs.Documents.{of_type, count_reads, each_read, bounded_reads, document_reads}
use Rattle.qe_layout.specs.Layouts.{Element, Reader, IsSlot}
use Rattle.qe_layout.specs.Leaves.{fixed_reads, bytes_reads, int32_reads, natural_reads}
use Rattle.qe_layout.specs.Refusal.{Refusal, wrong, bind, map_read, read_inside}
use Rattle.qe_parts.specs.declared.parts.Part.{Part}
use Rattle.qe_parts.specs.declared.parts.Part.TheVariants as part
use Rattle.qe_parts.specs.Edges.{HasEach}
use Rattle.qe_parts.specs.Parts.{token, of_length, cipher, key_id, sealed, whole, number, operator, token_in, cipher_in, key_id_in, sealed_in, whole_in, number_in}
use Rattle.qe_parts.proofs.FormLemmas.{map_ok, bind_ok, inside_ok}

-- what holds of each value that is read under a name holds of the value that stands there
pub held_with : {A : Type 0} (reads : Reader A) (elements : List Element) (name : List ℕ) (kind : Kind) (P : Plain → Option A → Type 0)
    → ((value : Plain) (x : A) → reads name value ≡ Ok x → P value (Some x)) → (s : Option A) → IsSlot reads elements (name, Some kind) s
    → (value : Plain) × ((value_named name elements ≡ Some value) × P value s)
held_with reads elements name kind P each None is = let no : Some kind ≡ None = is.0 in absurd (cc)
held_with reads elements name kind P each (Some x) is = (is.0, (is.1.0, each is.0 x is.1.1))

pub maybe_with : {A : Type 0} (reads : Reader A) (elements : List Element) (name : List ℕ) (P : Option Plain → Option A → Type 0) → P None None
    → ((value : Plain) (x : A) → reads name value ≡ Ok x → P (Some value) (Some x)) → (s : Option A) → IsSlot reads elements (name, None) s → P (value_named name elements) s
maybe_with reads elements name P none each None is = subst (λ found. P found None) (sym is.1) none
maybe_with reads elements name P none each (Some x) is = subst (λ found. P found (Some x)) (sym is.1.0) (each is.0 x is.1.1)

-- the value of a needed row, by its slot
pub held_as : {A : Type 0} (reads : Reader A) (elements : List Element) (name : List ℕ) (kind : Kind) (spell : Option A → Plain)
    → ((value : Plain) (x : A) → reads name value ≡ Ok x → value ≡ spell (Some x)) → (s : Option A) → IsSlot reads elements (name, Some kind) s → value_named name elements ≡ Some (spell s)
held_as reads elements name kind spell each s is =
    let value = held_with reads elements name kind (λ value s. value ≡ spell s) each s is in
    value.1.0 ∙ ap (λ v. Some v) value.1.1

-- leaves
fixed_is : (subtype count : ℕ) (name : List ℕ) (value : Plain) (t : List ℕ) → fixed_reads subtype count name value ≡ Ok t → value ≡ p.Binary subtype t
fixed_is subtype count name (p.Binary s b) t is = by_subtype (s == subtype) refl is
  where
    by_length : (b' : Bool) → (if b' then Ok b else wrong name (WrongLength (length b))) ≡ Ok t → b ≡ t
    by_length true is = cc
    by_length false is = absurd (cc)

    by_subtype : (same : Bool) → (s == subtype) ≡ same → (if same then (if length b == count then Ok b else wrong name (WrongLength (length b))) else wrong name WrongType) ≡ Ok t → p.Binary s b ≡ p.Binary subtype t
    by_subtype true same is = ap (λ n. p.Binary n b) (eqb-true s subtype same) ∙ ap (p.Binary subtype) (by_length (length b == count) is)
    by_subtype false same is = absurd (cc)
fixed_is subtype count name _ t is = absurd (cc)

bytes_is : (subtype least : ℕ) (name : List ℕ) (value : Plain) (t : List ℕ) → bytes_reads subtype least name value ≡ Ok t → value ≡ p.Binary subtype t
bytes_is subtype least name (p.Binary s b) t is = by_subtype (s == subtype) refl is
  where
    by_length : (b' : Bool) → (if b' then wrong name (WrongLength (length b)) else Ok b) ≡ Ok t → b ≡ t
    by_length true is = absurd (cc)
    by_length false is = cc

    by_subtype : (same : Bool) → (s == subtype) ≡ same → (if same then (if nat_lt (length b) least then wrong name (WrongLength (length b)) else Ok b) else wrong name WrongType) ≡ Ok t → p.Binary s b ≡ p.Binary subtype t
    by_subtype true same is = ap (λ n. p.Binary n b) (eqb-true s subtype same) ∙ ap (p.Binary subtype) (by_length (nat_lt (length b) least) is)
    by_subtype false same is = absurd (cc)
bytes_is subtype least name _ t is = absurd (cc)

pub token_is : (name : List ℕ) (value : Plain) (x : Part) → token name value ≡ Ok x → value ≡ p.Binary 0 (token_in (Some x))
token_is name value x is =
    let found = map_ok (λ t. part.Token t) (fixed_reads 0 32 name value) x is in
    fixed_is 0 32 name value found.0 found.1.0 ∙ ap (λ y. p.Binary 0 (token_in (Some y))) (sym found.1.1)

pub key_id_is : (name : List ℕ) (value : Plain) (x : Part) → key_id name value ≡ Ok x → value ≡ p.Binary 4 (key_id_in (Some x))
key_id_is name value x is =
    let found = map_ok (λ t. part.KeyId t) (fixed_reads 4 16 name value) x is in
    fixed_is 4 16 name value found.0 found.1.0 ∙ ap (λ y. p.Binary 4 (key_id_in (Some y))) (sym found.1.1)

pub sealed_is : (name : List ℕ) (value : Plain) (x : Part) → sealed name value ≡ Ok x → value ≡ p.Binary 0 (sealed_in (Some x))
sealed_is name value x is =
    let found = map_ok (λ t. part.Sealed t) (bytes_reads 0 80 name value) x is in
    bytes_is 0 80 name value found.0 found.1.0 ∙ ap (λ y. p.Binary 0 (sealed_in (Some y))) (sym found.1.1)

length_ok : (name bytes : List ℕ) (o : Option Cipher) (c : Cipher) → of_length name bytes o ≡ Ok c → o ≡ Some c
length_ok name bytes (Some found) c is = cc
length_ok name bytes None c is = absurd (cc)

from_is : (bytes : List ℕ) (c : Cipher) → cipher_from bytes ≡ Some c → cipher_bytes c ≡ bytes
from_is bytes c is = by_old (length bytes == 48) is
  where
    by_leaf : (b : Bool) → (if b then Some (Leaf bytes) else None) ≡ Some c → cipher_bytes c ≡ bytes
    by_leaf true is = let same : Leaf bytes ≡ c = cc in ap cipher_bytes (sym same)
    by_leaf false is = absurd (cc)

    by_old : (b : Bool) → (if b then Some (Old bytes) else (if length bytes == 49 then Some (Leaf bytes) else None)) ≡ Some c → cipher_bytes c ≡ bytes
    by_old true is = let same : Old bytes ≡ c = cc in ap cipher_bytes (sym same)
    by_old false is = by_leaf (length bytes == 49) is

pub cipher_is : (name : List ℕ) (value : Plain) (x : Part) → cipher name value ≡ Ok x → value ≡ p.Binary 0 (cipher_bytes (cipher_in (Some x)))
cipher_is name value x is =
    let found = map_ok (λ t. part.Cipher t) (bind (bytes_reads 0 0 name value) (λ bytes. of_length name bytes (cipher_from bytes))) x is in
    let read = bind_ok (bytes_reads 0 0 name value) (λ bytes. of_length name bytes (cipher_from bytes)) found.0 found.1.0 in
    let form = from_is read.0 found.0 (length_ok name read.0 (cipher_from read.0) found.0 read.1.1) in
    bytes_is 0 0 name value read.0 read.1.0 ∙ ap (p.Binary 0) (sym form) ∙ ap (λ y. p.Binary 0 (cipher_bytes (cipher_in (Some y)))) (sym found.1.1)

int32_is : (name : List ℕ) (value : Plain) (z : ℤ) → int32_reads name value ≡ Ok z → value ≡ p.Int32 z
int32_is name (p.Int32 n) z is = let same : n ≡ z = cc in ap (λ k. p.Int32 k) same
int32_is name _ z is = absurd (cc)

natural_is : (name : List ℕ) (value : Plain) (z : ℤ) → natural_reads name value ≡ Ok z → value ≡ p.Int64 z
natural_is name (p.Int64 (pos n)) z is = let same : pos n ≡ z = cc in ap (λ k. p.Int64 k) same
natural_is name (p.Int64 (negsuc n)) z is = absurd (cc)
natural_is name _ z is = absurd (cc)

pub whole_is : (name : List ℕ) (value : Plain) (x : Part) → whole name value ≡ Ok x → value ≡ p.Int32 (whole_in (Some x))
whole_is name value x is =
    let found = map_ok (λ t. part.Int32 t) (int32_reads name value) x is in
    int32_is name value found.0 found.1.0 ∙ ap (λ y. p.Int32 (whole_in (Some y))) (sym found.1.1)

pub number_is : (name : List ℕ) (value : Plain) (x : Part) → number name value ≡ Ok x → value ≡ p.Int64 (number_in (Some x))
number_is name value x is =
    let found = map_ok (λ t. part.Number t) (natural_reads name value) x is in
    natural_is name value found.0 found.1.0 ∙ ap (λ y. p.Int64 (number_in (Some y))) (sym found.1.1)

pub operator_is : (wanted : ℤ) (name : List ℕ) (value : Plain) (x : Part) → operator wanted name value ≡ Ok x → value ≡ p.Int32 wanted
operator_is wanted name (p.Int32 given) x is = by_test (int_eq given wanted) refl is
  where
    by_test : (b : Bool) → int_eq given wanted ≡ b → (if b then Ok (part.Int32 given) else wrong name ProfileOperator) ≡ Ok x → p.Int32 given ≡ p.Int32 wanted
    by_test true same is = ap (λ k. p.Int32 k) ((Decides-int_eq given wanted).0 same)
    by_test false same is = absurd (cc)
operator_is wanted name _ x is = absurd (cc)

-- documents and arrays
pub type_ok : {A : Type 0} (name : List ℕ) (o : Option A) (x : A) → of_type name o ≡ Ok x → o ≡ Some x
type_ok name (Some inner) x is = cc
type_ok name None x is = absurd (cc)

pub fields_are : (value : Plain) (elements : List Element) → fields_of value ≡ Some elements → value ≡ p.Doc elements
unfolding fields_of
fields_are value elements is = by_open (out-Plain value) refl is
  where
    by_open : (o : Plain-F Plain) → out-Plain value ≡ o → fields_open o ≡ Some elements → value ≡ p.Doc elements
    by_open (Plain-F.Doc found) opens is = let same : found ≡ elements = cc in sym (rolled value) ∙ ap roll-Plain (opens ∙ sym (out-Doc found)) ∙ rolled (p.Doc found) ∙ ap p.Doc same
    by_open _ opens is = absurd (cc)

pub items_are : (value : Plain) (items : List Plain) → items_of value ≡ Some items → value ≡ p.Array items
unfolding items_of
items_are value items is = by_open (out-Plain value) refl is
  where
    by_open : (o : Plain-F Plain) → out-Plain value ≡ o → items_open o ≡ Some items → value ≡ p.Array items
    by_open (Plain-F.Array found) opens is = let same : found ≡ items = cc in sym (rolled value) ∙ ap roll-Plain (opens ∙ sym (out-Array found)) ∙ rolled (p.Array found) ∙ ap p.Array same
    by_open _ opens is = absurd (cc)

-- a document that was read under a name
pub document_is : {A : Type 0} (of : List Element → Result A Refusal) (name : List ℕ) (value : Plain) (x : A) → document_reads of name value ≡ Ok x
    → (elements : List Element) × ((value ≡ p.Doc elements) × (of elements ≡ Ok x))
document_is of name value x is =
    let fields = bind_ok (of_type name (fields_of value)) (λ elements. read_inside name (of elements)) x is in
    (fields.0, (fields_are value fields.0 (type_ok name (fields_of value) fields.0 fields.1.0), inside_ok name (of fields.0) x fields.1.1))

each_has : {A : Type 0} (of : List Element → Result A Refusal) (Has : A → List Element → Type 0) → ((x : A) (elements : List Element) → of elements ≡ Ok x → Has x elements)
    → (at : ℕ) (items : List Plain) (xs : List A) → each_read (document_reads of) at items ≡ Ok xs → HasEach Has xs items
each_has of Has has at [] xs is = let same : [] ≡ xs = cc in subst (λ ys. HasEach Has ys []) same tt
each_has {A} of Has has at (item ∷ items) xs is =
    let first = bind_ok (document_reads of (decimal at) item) (λ x. map_read (λ (ys : List A). x ∷ ys) (each_read (document_reads of) (at + 1) items)) xs is in
    let rest = map_ok (λ (ys : List A). first.0 ∷ ys) (each_read (document_reads of) (at + 1) items) xs first.1.1 in
    let one = document_is of (decimal at) item first.0 first.1.0 in
    subst (λ ys. HasEach Has ys (item ∷ items)) (sym rest.1.1) ((one.0, (one.1.0, has first.0 one.0 one.1.1)), each_has of Has has (at + 1) items rest.0 rest.1.0)

-- an array of documents that was read under a name
pub array_is : {A : Type 0} (of : List Element → Result A Refusal) (Has : A → List Element → Type 0) → ((x : A) (elements : List Element) → of elements ≡ Ok x → Has x elements)
    → (some : Bool) (most : ℕ) (name : List ℕ) (value : Plain) (xs : List A) → bounded_reads some most (document_reads of) name value ≡ Ok xs
    → (items : List Plain) × ((value ≡ p.Array items) × HasEach Has xs items)
array_is of Has has some most name value xs is =
    let items = bind_ok (of_type name (items_of value)) (λ items. bind (count_reads some most name (length items)) (λ _. read_inside name (each_read (document_reads of) 0 items))) xs is in
    let counted = bind_ok (count_reads some most name (length items.0)) (λ _. read_inside name (each_read (document_reads of) 0 items.0)) xs items.1.1 in (
      items.0,
      (
        items_are value items.0 (type_ok name (items_of value) items.0 items.1.0),
        each_has of Has has 0 items.0 xs (inside_ok name (each_read (document_reads of) 0 items.0) xs counted.1.1),
      ),
    )
