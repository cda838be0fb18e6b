-- Items of fields in rising order are what stands in the slots of a table of all fields.
use Rattle.std.proofs.Common.{◌≡◌, ℕ, suc, ◌+◌, ◌-◌, ◌<◌, ◌≤◌, List, [], ◌∷◌, map, Option, None, Some, Ok, refl, sym, ap, subst, ◌∙◌, arith, inl, inr}
use Rattle.std.specs.Prelude.{slice_get}
use Rattle.std.specs.List.{AllByRecursion, AllPairs}
use Rattle.std.proofs.lemmas.Bool.{cases_eq}
use Rattle.qe_value.specs.declared.value.Plain.{Plain}
use Rattle.qe_field.specs.declared.field.Field.{Field}
use Rattle.qe_field.specs.Lookup.{path_of, path_or_none}
use Rattle.qe_layout.specs.Layouts.{Element, Reader}
use Rattle.qe_layout.specs.Writing.{AreSpelled, written}
use Rattle.qe_command_document.specs.CellDocuments.{field_rows}

-- numbers rise, from a first one on
abbrev pub RiseFrom : ℕ → List ℕ → Type 0
RiseFrom i [] = Unit {0}
RiseFrom i (n ∷ ns) = (i ≤ n) × RiseFrom (n + 1) ns

rise_from : {X : Type 0} (number : X → ℕ) (i : ℕ) (x : X) (xs : List X) → i ≤ number x → AllPairs (λ a b. number a < number b) (x ∷ xs) → RiseFrom i (map number (x ∷ xs))
rise_from number i x [] few pairs = (few, tt)
rise_from number i x (y ∷ xs) few pairs =
    let next = pairs 0 1 x (omega arith) (omega arith) in
    (few, rise_from number (number x + 1) y xs (omega (arith, next)) (λ a b d less within. pairs (suc a) (suc b) d (omega (arith, less)) (omega (arith, within))))

pub pairs_rise : {X : Type 0} (number : X → ℕ) (xs : List X) → AllPairs (λ a b. number a < number b) xs → RiseFrom 0 (map number xs)
pairs_rise number [] pairs = tt
pairs_rise number (x ∷ xs) pairs = rise_from number 0 x xs (omega arith) pairs

module _ {A B : Type 0} (reads : Reader A) (spell : A → Plain) (number : B → ℕ) (part : B → A) (from : ℕ → List (Option A) → List B) (all : List Field) where
  -- how items are taken off slots
  pub record Takes : Type 0 where
    pub ends : (i : ℕ) → from i [] ≡ []
    pub skips : (i : ℕ) (slots : List (Option A)) → from i (None ∷ slots) ≡ from (i + 1) slots
    pub takes : (item : B) (slots : List (Option A)) → from (number item) (Some (part item) ∷ slots) ≡ item ∷ from (number item + 1) slots

  -- an item is read again under its field
  pub record IsRead (item : B) : Type 0 where
    pub field : Field
    pub there : slice_get all (number item) ≡ Some field
    pub read : reads field.path (spell (part item)) ≡ Ok (part item)

  abbrev pub element_of : B → Element
  element_of item = (path_of all (number item), spell (part item))

  -- the slots of some fields, of which the first has a number
  pub record Slotted (i : ℕ) (fields : List Field) (items : List B) : Type 0 where
    pub slots : List (Option A)
    pub items_are : from i slots ≡ items
    pub elements : written spell (field_rows fields) slots ≡ map element_of items
    pub each : AreSpelled reads spell (field_rows fields) slots

  abbrev AreLeft : ℕ → List Field → Type 0
  AreLeft i fields = (j : ℕ) → slice_get fields j ≡ slice_get all (i + j)

  left_next : (i : ℕ) (field : Field) (fields : List Field) → AreLeft i (field ∷ fields) → AreLeft (i + 1) fields
  left_next i field fields left j = left (suc j) ∙ ap (slice_get all) (let place : i + suc j ≡ i + 1 + j = omega arith in place)

  module _ (walk : Takes) where
    skip : (i : ℕ) (field : Field) (fields : List Field) (items : List B) → Slotted (i + 1) fields items → Slotted i (field ∷ fields) items
    skip i field fields items rest =
        record { slots = None ∷ rest.slots; items_are = walk.skips i rest.slots ∙ rest.items_are; elements = rest.elements; each = (refl, rest.each) }

    take_one : (item : B) (items : List B) (field : Field) (fields : List Field) → AreLeft (number item) (field ∷ fields) → IsRead item
        → Slotted (number item + 1) fields items → Slotted (number item) (field ∷ fields) (item ∷ items)
    take_one item items field fields left is rest =
        let here : slice_get all (number item) ≡ Some field = ap (slice_get all) (let place : number item ≡ number item + 0 = omega arith in place) ∙ sym (left 0) in
        let both : Some is.field ≡ Some field = sym is.there ∙ here in
        let same : is.field ≡ field = cc in
        let path : field.path ≡ path_of all (number item) = sym (ap path_or_none here) in
        record {
          slots = Some (part item) ∷ rest.slots;
          items_are = walk.takes item rest.slots ∙ ap (λ more. item ∷ more) rest.items_are;
          elements = ap (λ name. (name, spell (part item)) ∷ written spell (field_rows fields) rest.slots) path
              ∙ ap (λ more. (path_of all (number item), spell (part item)) ∷ more) rest.elements;
          each = (subst (λ (f : Field). reads f.path (spell (part item)) ≡ Ok (part item)) same is.read, rest.each);
        }

    slotted : (i : ℕ) (fields : List Field) (items : List B) → AreLeft i fields → RiseFrom i (map number items) → AllByRecursion IsRead items → Slotted i fields items
    slotted i [] [] left rise each = record { slots = []; items_are = walk.ends i; elements = refl; each = tt }
    slotted i [] (item ∷ items) left rise each =
        let few = rise.0 in
        let place : i + (number item - i) ≡ number item = omega (arith, few) in
        let none = left (number item - i) ∙ ap (slice_get all) place ∙ each.0.there in
        absurd (cc)
    slotted i (field ∷ fields) [] left rise each = skip i field fields [] (slotted (i + 1) fields [] (left_next i field fields left) tt tt)
    slotted i (field ∷ fields) (item ∷ items) left rise each =
        elim (cases_eq (number item) i) [
          | inl same ↦
              let here = subst (λ n. AreLeft n (field ∷ fields)) (sym same) left in
              subst (λ n. Slotted n (field ∷ fields) (item ∷ items)) same
              (take_one item items field fields here each.0 (slotted (number item + 1) fields items (left_next (number item) field fields here) rise.1 each.1))
          | inr other ↦
              let few = rise.0 in
              let more : i + 1 ≤ number item = omega (arith, few, other) in
              skip i field fields (item ∷ items) (slotted (i + 1) fields (item ∷ items) (left_next i field fields left) (more, rise.1) each)
        ]

    -- .. of all fields
    pub all_slotted : (items : List B) → RiseFrom 0 (map number items) → AllByRecursion IsRead items → Slotted 0 all items
    all_slotted items rise each = slotted 0 all items (λ j. ap (slice_get all) (let place : j ≡ 0 + j = omega arith in place)) rise each
