-- What is written of a document that was read is no longer than it, and fits where it does.
use Rattle.std.proofs.Common.{◌≡◌, ℕ, zero, suc, ◌+◌, ◌≤◌, false, List, [], ◌∷◌, ◌++◌, length, map, refl, ap, sym, subst, ◌∙◌, arith, rules, inl, inr, if◌then◌else◌, Option, None, Some, Ok}
use Rattle.std.specs.Prelude.{bytes_eq, decimal}
use Rattle.std.specs.Int.{w32, to_le_bytes}
use Rattle.std.specs.List.{AllByRecursion}
use Rattle.std.proofs.lemmas.Bool.{cases_Bool, cond-true, cond-false, or_parts}
use Rattle.std.proofs.lemmas.Slice.Eq.{bytes_eq-Decides}
use Rattle.qe_base.specs.Bytes.{AreBytes}
use Rattle.qe_value.specs.declared.value.Plain.{Plain, out-Plain}
use Rattle.qe_value.specs.declared.value.Plain.TheVariants as p
use Rattle.qe_value.specs.Measures.{fields_length, items_length, value_length, length_field}
use Rattle.qe_value.specs.Spelling.{Spelled, element, spelled, spelled_field, fields_bytes, items_bytes, framed, document_bytes, IsName, FieldsFit, ItemsFit, Fits_with}
use Rattle.qe_value.proofs.PlainLemmas.{out-Doc, out-Array, spelled-Doc, spelled-Array}
use Rattle.qe_value.proofs.ReaderTools.{AreBytes-rest}
use Rattle.qe_encode.proofs.SizeLemmas.{value_length-Doc, value_length-Array}
use Rattle.qe_document.specs.Names.{Distinct, is_named, value_named}
use Rattle.qe_layout.specs.Layouts.{Element, Reader, Rows, AreSlots}
use Rattle.qe_layout.specs.Writing.{written}
use Rattle.qe_layout.proofs.FillLemmas.{bytes_eq-sym}
use Rattle.qe_layout.proofs.WrittenLemmas.{written-distinct}

abbrev pub size : List Element → ℕ
size elements = fields_length (map length_field elements)

-- the elements without the first of a name
abbrev without : List ℕ → List Element → List Element
without name [] = []
without name (e ∷ elements) = if bytes_eq name e.0 then elements else e ∷ without name elements

size_without : (name : List ℕ) (elements : List Element) (v : Plain) → value_named name elements ≡ Some v
    → size elements ≡ length name + 2 + value_length v + size (without name elements)
size_without name [] v found = absurd (cc)
size_without name (e ∷ elements) v found =
    elim (cases_Bool (bytes_eq name e.0)) [
      | inl same ↦
          let name_is : name ≡ e.0 = (bytes_eq-Decides name e.0).0 same in
          let both : Some e.1 ≡ Some v = sym (cond-true (bytes_eq name e.0) (Some e.1) (value_named name elements) same) ∙ found in
          let value_is : e.1 ≡ v = cc in
          let left = cond-true (bytes_eq name e.0) elements (e ∷ without name elements) same in
          let one : length e.0 ≡ length name = ap length (sym name_is) in
          let two : value_length e.1 ≡ value_length v = ap value_length value_is in
          let three : size (without name (e ∷ elements)) ≡ size elements = ap size left in
          omega (arith, one, two, three)
      | inr other ↦
          let later = size_without name elements v (sym (cond-false (bytes_eq name e.0) (Some e.1) (value_named name elements) other) ∙ found) in
          let left = cond-false (bytes_eq name e.0) elements (e ∷ without name elements) other in
          let three : size (without name (e ∷ elements)) ≡ size (e ∷ without name elements) = ap size left in
          omega (arith, later, three)
    ]

other_without : (name other : List ℕ) (elements : List Element) → bytes_eq other name ≡ false → value_named other (without name elements) ≡ value_named other elements
other_without name other [] differs = refl
other_without name other (e ∷ elements) differs =
    elim (cases_Bool (bytes_eq name e.0)) [
      | inl same ↦
          let name_is : name ≡ e.0 = (bytes_eq-Decides name e.0).0 same in
          let apart : bytes_eq other e.0 ≡ false = ap (bytes_eq other) (sym name_is) ∙ differs in
          ap (value_named other) (cond-true (bytes_eq name e.0) elements (e ∷ without name elements) same)
          ∙ sym (cond-false (bytes_eq other e.0) (Some e.1) (value_named other elements) apart)
      | inr apart ↦
          ap (value_named other) (cond-false (bytes_eq name e.0) elements (e ∷ without name elements) apart)
          ∙ ap (λ found. if bytes_eq other e.0 then Some e.1 else found) (other_without name other elements differs)
    ]

-- an element of this name stands there, and its value is no shorter
abbrev pub Among : List Element → Element → Type 0
Among elements e = (v : Plain) × ((value_named e.0 elements ≡ Some v) × (value_length e.1 ≤ value_length v))

among_without : (name : List ℕ) (elements wanted : List Element) → is_named name wanted ≡ false → AllByRecursion (Among elements) wanted
    → AllByRecursion (Among (without name elements)) wanted
among_without name elements [] new each = tt
among_without name elements (w ∷ wanted) new each =
    let parts = or_parts (bytes_eq name w.0) (is_named name wanted) new in
    let stays = other_without name w.0 elements (bytes_eq-sym w.0 name ∙ parts.0) in
    ((each.0.0, (stays ∙ each.0.1.0, each.0.1.1)), among_without name elements wanted parts.1 each.1)

pub size_below : (wanted elements : List Element) → Distinct wanted → AllByRecursion (Among elements) wanted → size wanted ≤ size elements
size_below [] elements apart each = omega arith
size_below (w ∷ wanted) elements apart each =
    let taken = size_without w.0 elements each.0.0 each.0.1.0 in
    let rest = size_below wanted (without w.0 elements) apart.1 (among_without w.0 elements wanted apart.0 each.1) in
    omega (arith, taken, rest, each.0.1.1)

-- bytes of parts
left_bytes : (xs ys : List ℕ) → AreBytes (xs ++ ys) → AreBytes xs
left_bytes [] ys are k = omega arith
left_bytes (x ∷ xs) ys are zero = are 0
left_bytes (x ∷ xs) ys are (suc k) = left_bytes xs ys (AreBytes-rest x (xs ++ ys) are) k

pub right_bytes : (xs ys : List ℕ) → AreBytes (xs ++ ys) → AreBytes ys
right_bytes [] ys are = are
right_bytes (x ∷ xs) ys are = right_bytes xs ys (AreBytes-rest x (xs ++ ys) are)

element_value : (name : List ℕ) (v : Spelled) → AreBytes (element name v) → AreBytes v.bytes
element_value name v are = AreBytes-rest 0 v.bytes (right_bytes name (0 ∷ v.bytes) (AreBytes-rest _ (name ++ (0 ∷ v.bytes)) are))

named_in : (name : List ℕ) (elements : List Element) (v : Plain) → AreBytes (fields_bytes (map spelled_field elements)) → value_named name elements ≡ Some v
    → AreBytes (spelled v).bytes
named_in name [] v are found = absurd (cc)
named_in name (e ∷ elements) v are found =
    let first = element e.0 (spelled e.1) in
    let rest = fields_bytes (map spelled_field elements) in
    elim (cases_Bool (bytes_eq name e.0)) [
      | inl same ↦
          let both : Some e.1 ≡ Some v = sym (cond-true (bytes_eq name e.0) (Some e.1) (value_named name elements) same) ∙ found in
          let value_is : e.1 ≡ v = cc in
          subst (λ (w : Plain). AreBytes (spelled w).bytes) value_is (element_value e.0 (spelled e.1) (left_bytes first rest are))
      | inr other ↦
          named_in name elements v (right_bytes first rest are) (sym (cond-false (bytes_eq name e.0) (Some e.1) (value_named name elements) other) ∙ found)
    ]

framed_in : (bytes : List ℕ) → AreBytes (framed bytes) → AreBytes bytes
framed_in bytes are = left_bytes bytes (0 ∷ []) (right_bytes (to_le_bytes w32 (length bytes + 5)) (bytes ++ (0 ∷ [])) are)

pub named_bytes : (name : List ℕ) (elements : List Element) (v : Plain) → AreBytes (document_bytes elements) → value_named name elements ≡ Some v → AreBytes (spelled v).bytes
named_bytes name elements v are found = named_in name elements v (framed_in (fields_bytes (map spelled_field elements)) are) found

pub doc_bytes : (elements : List Element) → AreBytes (spelled (p.Doc elements)).bytes → AreBytes (document_bytes elements)
doc_bytes elements are = subst (λ (s : Spelled). AreBytes s.bytes) (spelled-Doc elements) are

each_item : (k : ℕ) (items : List Plain) → AreBytes (items_bytes k (map spelled items)) → AllByRecursion (λ v. AreBytes (spelled v).bytes) items
each_item k [] are = tt
each_item k (v ∷ items) are =
    let first = element (decimal k) (spelled v) in
    let rest = items_bytes (suc k) (map spelled items) in
    (element_value (decimal k) (spelled v) (left_bytes first rest are), each_item (suc k) items (right_bytes first rest are))

pub array_items : (items : List Plain) → AreBytes (spelled (p.Array items)).bytes → AllByRecursion (λ v. AreBytes (spelled v).bytes) items
array_items items are =
    each_item 0 items (framed_in (items_bytes 0 (map spelled items)) (subst (λ (s : Spelled). AreBytes s.bytes) (spelled-Array items) are))

-- a value in the place of another: no longer, and fits where that does
abbrev pub FitsIn : ℕ → Plain → Type 0
FitsIn room v = Fits_with (FieldsFit room) (ItemsFit room) (out-Plain v)

pub record IsNear (was is : Plain) : Type 0 where
  pub short : value_length is ≤ value_length was
  pub fits : (room : ℕ) → FitsIn room was → FitsIn room is

pub itself : (v : Plain) → IsNear v v
itself v = record { short = omega arith; fits = λ room fits. fits }

-- the same of elements
pub record AreNear (was is : List Element) : Type 0 where
  pub short : size is ≤ size was
  pub fits : (room : ℕ) → FieldsFit room was → FieldsFit room is

pub doc_near : (was is : List Element) → AreNear was is → IsNear (p.Doc was) (p.Doc is)
doc_near was is near = record {
  short = let one = value_length-Doc was in let two = value_length-Doc is in omega (arith, one, two, near.short);
  fits = λ room fits.
      subst (λ o. Fits_with (FieldsFit room) (ItemsFit room) o) (sym (out-Doc is))
      (near.fits room (subst (λ o. Fits_with (FieldsFit room) (ItemsFit room) o) (out-Doc was) fits));
}

-- items one by one
abbrev pub EachNear : List Plain → List Plain → Type 0
EachNear [] [] = Unit {0}
EachNear [] (w ∷ is) = ⊥
EachNear (v ∷ was) [] = ⊥
EachNear (v ∷ was) (w ∷ is) = IsNear v w × EachNear was is

items_short : (k : ℕ) (was is : List Plain) → EachNear was is → items_length k (map value_length is) ≤ items_length k (map value_length was)
items_short k [] [] each = omega arith
items_short k [] (w ∷ is) each = absurd each
items_short k (v ∷ was) [] each = absurd each
items_short k (v ∷ was) (w ∷ is) each = let rest = items_short (suc k) was is each.1 in omega (arith, rest, each.0.short)

each_fits : (room : ℕ) (was is : List Plain) → EachNear was is → AllByRecursion (FitsIn room) was → AllByRecursion (FitsIn room) is
each_fits room [] [] each fits = tt
each_fits room [] (w ∷ is) each fits = absurd each
each_fits room (v ∷ was) [] each fits = absurd each
each_fits room (v ∷ was) (w ∷ is) each fits = (each.0.fits room fits.0, each_fits room was is each.1 fits.1)

items_fit : (room : ℕ) (was is : List Plain) → EachNear was is → ItemsFit room was → ItemsFit room is
unfolding FieldsFit
items_fit zero was is each fits = absurd fits
items_fit (suc room) was is each fits = each_fits room was is each fits

pub array_near : (was is : List Plain) → EachNear was is → IsNear (p.Array was) (p.Array is)
array_near was is each = record {
  short = let one = value_length-Array was in let two = value_length-Array is in let short = items_short 0 was is each in omega (arith, one, two, short);
  fits = λ room fits.
      subst (λ o. Fits_with (FieldsFit room) (ItemsFit room) o) (sym (out-Array is))
      (items_fit room was is each (subst (λ o. Fits_with (FieldsFit room) (ItemsFit room) o) (out-Array was) fits));
}

-- each element stands among others with a value that it is near to
abbrev pub HasNear : List Element → Element → Type 0
HasNear was e = (v : Plain) × ((value_named e.0 was ≡ Some v) × IsNear v e.1)

named_fits : (room : ℕ) (name : List ℕ) (elements : List Element) (v : Plain) → AllByRecursion (λ f. IsName f.0 × FitsIn room f.1) elements → value_named name elements ≡ Some v
    → IsName name × FitsIn room v
named_fits room name [] v each found = absurd (cc)
named_fits room name (e ∷ elements) v each found =
    elim (cases_Bool (bytes_eq name e.0)) [
      | inl same ↦
          let name_is : name ≡ e.0 = (bytes_eq-Decides name e.0).0 same in
          let both : Some e.1 ≡ Some v = sym (cond-true (bytes_eq name e.0) (Some e.1) (value_named name elements) same) ∙ found in
          let value_is : e.1 ≡ v = cc in
          (subst IsName (sym name_is) each.0.0, subst (FitsIn room) value_is each.0.1)
      | inr other ↦ named_fits room name elements v each.1 (sym (cond-false (bytes_eq name e.0) (Some e.1) (value_named name elements) other) ∙ found)
    ]

near_each : (room : ℕ) (was is : List Element) → AllByRecursion (λ f. IsName f.0 × FitsIn room f.1) was → AllByRecursion (HasNear was) is
    → AllByRecursion (λ f. IsName f.0 × FitsIn room f.1) is
near_each room was [] fits each = tt
near_each room was (e ∷ is) fits each =
    let named = named_fits room e.0 was each.0.0 fits each.0.1.0 in
    ((named.0, each.0.1.1.fits room named.1), near_each room was is fits each.1)

near_fit : (room : ℕ) (was is : List Element) → Distinct is → AllByRecursion (HasNear was) is → FieldsFit room was → FieldsFit room is
unfolding FieldsFit
near_fit zero was is apart each fits = absurd fits
near_fit (suc room) was is apart each fits = (apart, near_each room was is fits.1 each)

near_among : (was is : List Element) → AllByRecursion (HasNear was) is → AllByRecursion (Among was) is
near_among was [] each = tt
near_among was (e ∷ is) each = ((each.0.0, (each.0.1.0, each.0.1.1.short)), near_among was is each.1)

pub are_near : (was is : List Element) → Distinct is → AllByRecursion (HasNear was) is → AreNear was is
are_near was is apart each = record { short = size_below is was apart (near_among was is each); fits = λ room fits. near_fit room was is apart each fits }

-- a table's slots as they are written
slots_near : {A : Type 0} (reads : Reader A) (spell : A → Plain) (rows : Rows) (slots : List (Option A)) (was : List Element) → AreBytes (document_bytes was)
    → ((name : List ℕ) (value : Plain) (x : A) → reads name value ≡ Ok x → AreBytes (spelled value).bytes → IsNear value (spell x)) → AreSlots reads was rows slots
    → AllByRecursion (HasNear was) (written spell rows slots)
slots_near reads spell [] [] was are near each = tt
slots_near reads spell [] (s ∷ slots) was are near each = absurd each
slots_near reads spell (row ∷ rows) [] was are near each = absurd each
slots_near reads spell (row ∷ rows) (None ∷ slots) was are near each = slots_near reads spell rows slots was are near each.1
slots_near reads spell (row ∷ rows) (Some x ∷ slots) was are near each = (
  (each.0.0, (each.0.1.0, near row.0 each.0.0 x each.0.1.1 (named_bytes row.0 was each.0.0 are each.0.1.0))),
  slots_near reads spell rows slots was are near each.1,
)

pub written_near : {A : Type 0} (reads : Reader A) (spell : A → Plain) (rows : Rows) (slots : List (Option A)) (was : List Element) → Distinct rows → AreBytes (document_bytes was)
    → ((name : List ℕ) (value : Plain) (x : A) → reads name value ≡ Ok x → AreBytes (spelled value).bytes → IsNear value (spell x)) → AreSlots reads was rows slots
    → AreNear was (written spell rows slots)
written_near reads spell rows slots was apart are near each =
    are_near was (written spell rows slots) (written-distinct spell rows slots apart) (slots_near reads spell rows slots was are near each)
