-- What the cells of a resolved document or set hold.
use Rattle.std.proofs.Common.{◌≡◌, ℕ, inl, inr, Bool, true, List, [], ◌∷◌, Option, None, Some, refl, sym, subst}
use Rattle.std.specs.Prelude.{IfSome, Ok, bytes_eq, codes}
use Rattle.std.proofs.lemmas.Bool.{cases_Bool}
use Rattle.std.proofs.lemmas.List.Elements.{All-from_recursion}
use Rattle.std.proofs.lemmas.Slice.Eq.{bytes_eq-Decides}
use Rattle.qe_value.specs.declared.value.Plain.{Plain}
use Rattle.qe_value.specs.Names.{value_named}
use Rattle.qe_plain.specs.declared.command.PlainCell.{PlainCell}
use Rattle.qe_filter.specs.declared.fault.PlainFault.TheVariants as f
use Rattle.qe_field.specs.declared.field.Field.{Field}
use Rattle.qe_field.specs.declared.field.FieldKind.{FieldKind}
use Rattle.qe_field.specs.declared.field.FieldKind.TheVariants as k
use Rattle.qe_field.specs.Judgements.{some_or}
use Rattle.qe_field.specs.Lookup.{known}
use Rattle.qe_field.specs.Values.{is_id, lies_in, number_in}
use Rattle.qe_filter.specs.Typed.{typed}
use Rattle.qe_resolve.specs.Slots.{put, empty_slots, listed_from}
use Rattle.qe_resolve.specs.Cells.{within, kept_value, field_cell, is_refused, name_cell, slots_from, cell}
use Rattle.qe_schema.specs.Laws.{CellsAreTheFields}
use Rattle.qe_schema.specs.Resolved.{OfField, IsKeptBy, IsCell, AreCells}
use Rattle.qe_field.proofs.GaveLemmas.{gave, there}
use Rattle.qe_schema.proofs.ResolvedLemmas.{of_field, typed_kind}
use Rattle.qe_schema.proofs.SlotLemmas.{Stand, none_stand, put_stand, listed_all, listed_rise}

value_kept : (name : List ℕ) (kind : FieldKind) (value v : Plain) → kept_value name kind value ≡ Ok v → IsKeptBy v kind
value_kept name k.Plain value v h = tt
value_kept name (k.Equality id type contention greatest) value v h = typed_kind type value v (there _ (typed type value) v h)
value_kept name (k.Range id type contention greatest domain) value v h =
    let g = gave (some_or (f.TypeDiffers name) (typed type value)) (within name domain) v h in
    let has = typed_kind type value g.value (there _ (typed type value) g.value g.found) in
    let last = g.then_is in
    elim (cases_Bool (lies_in domain.min domain.max (number_in g.value))) [
      | inl sure ↦
          let made = rw sure at last in
          let e : g.value ≡ v = cc in
          subst (λ (w : Plain). IsKeptBy w (k.Range id type contention greatest domain)) e (has, sure)
      | inr failed ↦ let made = rw failed at last in cc
    ]

-- a value that the field of a number keeps
abbrev Kept : List Field → ℕ → Plain → Type 0
Kept fields i value = OfField fields i (IsKeptBy value)

abbrev KeptAt : List Field → ℕ × Plain → Type 0
KeptAt fields placed = Kept fields placed.0 placed.1

name_kept : (in_set : Bool) (fields : List Field) (element : List ℕ × Plain) (placed : Option (ℕ × Plain))
    → name_cell in_set fields element ≡ Ok placed → IfSome placed (KeptAt fields)
name_kept in_set fields element placed h =
    elim (cases_Bool (is_refused in_set element.0)) [
      | inl sure ↦ let g = rw sure at h in cc
      | inr failed ↦
          let g = rw failed at h in
          elim (cases_Bool (bytes_eq element.0 (codes "_id"))) [
            | inl is_named_id ↦
                let m = rw is_named_id at g in
                elim (cases_Bool (is_id element.1)) [
                  | inl good ↦
                      let last = rw good at m in
                      let e : None ≡ placed = cc in
                      subst (λ p. IfSome p (KeptAt fields)) e tt
                  | inr bad ↦ let last = rw bad at m in cc
                ]
            | inr other ↦
                let m = rw other at g in
                let found = gave (some_or (f.UnknownField element.0) (known fields element.0)) (field_cell element.0 element.1) placed m in
                let valued = gave (kept_value element.0 found.value.1 element.1) _ placed found.then_is in
                let last = valued.then_is in
                let e : Some (found.value.0, valued.value) ≡ placed = cc in
                let kept = value_kept element.0 found.value.1 element.1 valued.value valued.found in
                subst (λ p. IfSome p (KeptAt fields)) e (of_field (IsKeptBy valued.value) fields element.0 found.value (there _ (known fields element.0) found.value found.found) kept)
          ]
    ]

slots_kept : (in_set : Bool) (fields : List Field) (elements : List (List ℕ × Plain)) (slots made : List (Option Plain)) → Stand (Kept fields) 0 slots
    → slots_from in_set fields slots elements ≡ Ok made → Stand (Kept fields) 0 made
slots_kept in_set fields [] slots made kept h =
    let e : slots ≡ made = cc in
    subst (Stand (Kept fields) 0) e kept
slots_kept in_set fields (element ∷ elements) slots made kept h =
    let g = gave (name_cell in_set fields element) _ made h in
    let new = name_kept in_set fields element g.value g.found in
    slots_kept in_set fields elements (put g.value slots) made (put_stand (Kept fields) g.value slots new kept) g.then_is

pub are_cells : CellsAreTheFields
are_cells in_set fields elements cells h =
    let g = gave (slots_from in_set fields (empty_slots fields) elements) _ cells h in
    let last = g.then_is in
    let e : listed_from cell 0 g.value ≡ cells = cc in
    let kept = slots_kept in_set fields elements (empty_slots fields) g.value (none_stand (Kept fields) fields) g.found in
    let all = listed_all (Kept fields) (IsCell fields) cell (λ n v at. at) 0 g.value kept in
    let rise = listed_rise (λ (c : PlainCell). c.field) cell (λ n v. refl) 0 g.value in
    subst (AreCells fields) e (record { each = All-from_recursion (IsCell fields) (listed_from cell 0 g.value) all; rise = rise.pairs })

-- what stands under `_id` is an id
named_id : (in_set : Bool) (fields : List Field) (element : List ℕ × Plain) (placed : Option (ℕ × Plain)) → name_cell in_set fields element ≡ Ok placed
    → bytes_eq element.0 (codes "_id") ≡ true → is_id element.1 ≡ true
named_id in_set fields element placed h named =
    elim (cases_Bool (is_refused in_set element.0)) [
      | inl sure ↦ let g = rw sure at h in cc
      | inr failed ↦
          let g = rw failed at h in
          let m = rw named at g in
          elim (cases_Bool (is_id element.1)) [
            | inl good ↦ good
            | inr bad ↦ let last = rw bad at m in cc
          ]
    ]

pub id_there : (in_set : Bool) (fields : List Field) (elements : List (List ℕ × Plain)) (slots made : List (Option Plain)) (id : Plain)
    → slots_from in_set fields slots elements ≡ Ok made → value_named (codes "_id") elements ≡ Some id → is_id id ≡ true
id_there in_set fields [] slots made id h there_is = cc
id_there in_set fields (element ∷ elements) slots made id h there_is =
    let g = gave (name_cell in_set fields element) _ made h in
    elim (cases_Bool (bytes_eq (codes "_id") element.0)) [
      | inl sure ↦
          let found = rw sure at there_is in
          let e : element.1 ≡ id = cc in
          let same = (bytes_eq-Decides (codes "_id") element.0).0 sure in
          let named = (bytes_eq-Decides element.0 (codes "_id")).1 (sym same) in
          subst (λ v. is_id v ≡ true) e (named_id in_set fields element g.value g.found named)
      | inr failed ↦
          let later = rw failed at there_is in
          id_there in_set fields elements (put g.value slots) made id g.then_is later
    ]
