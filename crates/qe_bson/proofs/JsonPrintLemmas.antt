-- JSON of values, level by level, and loops over items and fields.
use Rattle.std.proofs.Common.{◌≡◌, ℕ, zero, suc, ◌+◌, ◌<◌, ◌≤◌, List, [], ◌∷◌, ◌++◌, length, get_or, drop, map, Some, option_map, Result, Ok, Err, refl, sym, ap, ◌∙◌, append_assoc, append-nil, add-one, arith, rules}
use Rattle.std.proofs.Math.Seq.{drop-cons}
use Rattle.std.proofs.lemmas.List.{drop_all}
use Rattle.std.specs.Prelude.{slice_get}
use Rattle.serde_json.specs.Data.{Data, Members, put}
use Rattle.qe_document.specs.Views.{plain, opened, size_of, size_of_fields}
use Rattle.qe_value.specs.declared.value.Plain.{Plain, the_lemmas}
use Rattle.qe_value.specs.declared.value.Plain.TheVariants as p
use Rattle.qe_value.specs.declared.value.Value.{Value}
use Rattle.qe_value.specs.declared.value.Value.TheVariants as v
use Rattle.qe_bson.specs.declared.extended_json.fault.JsonFault.{JsonFault}
use Rattle.qe_bson.specs.JsonReading.{then}
use Rattle.qe_bson.specs.JsonWriting.{all_of, members_from, json_array, json_object, json_step, json_of, json_field}

pub json_of-Doc : (fs : List (List ℕ × Plain)) → json_of (p.Doc fs) ≡ json_object (map json_field fs)
unfolding json_of
json_of-Doc fs = search (rules, the_lemmas)

pub json_of-Array : (vs : List Plain) → json_of (p.Array vs) ≡ json_array (map json_of vs)
unfolding json_of
json_of-Array vs = search (rules, the_lemmas)

-- a value of the code has the JSON of its tree
pub json_of-plain : (x : Value) → json_of (plain x) ≡ json_step (opened json_of x)
unfolding json_of
json_of-plain (v.Doc fs) = json_of-Doc fs
json_of-plain (v.Array vs) = json_of-Array vs
json_of-plain _ = search (rules, the_lemmas)

-- a field has no more values than all fields
pub field_size : (fs : List (List ℕ × Plain)) (i : ℕ) (x : Plain) → Some x ≡ option_map (λ f. f.1) (slice_get fs i) → size_of x ≤ size_of_fields fs
field_size [] i x is = cc
field_size (f ∷ fs) zero x is = let here : x ≡ f.1 = cc in let same : size_of x ≡ size_of f.1 = ap size_of here in omega arith
field_size (f ∷ fs) (suc i) x is = let inner : size_of x ≤ size_of_fields fs = field_size fs i x is in omega arith

-- the data before those that are written of the rest
abbrev pub with_data : List Data → Result (List Data) JsonFault → Result (List Data) JsonFault
with_data front (Ok ds) = Ok (front ++ ds)
with_data front (Err fault) = Err fault

with_data-push : (front : List Data) (d : Data) (r : Result (List Data) JsonFault) → with_data (front ++ d ∷ []) r ≡ with_data front (then (λ ds. Ok (d ∷ ds)) r)
with_data-push front d (Ok ds) = ap Ok (append_assoc front (d ∷ []) ds)
with_data-push front d (Err fault) = refl

module _ (front : List Data) (items : List Value) (k : ℕ) (whole : Result (List Data) JsonFault)
    (so_far : with_data front (all_of (map json_of (map plain (drop k items)))) ≡ whole) where
  item_left : (x : Value) → k < length items → x ≡ get_or items k x → drop k items ≡ x ∷ drop (k + 1) items
  item_left x lt is = rw add-one (drop-cons items k x lt ∙ ap (λ y. y ∷ drop (suc k) items) (sym is))

  -- an item is written
  pub items_go_on : (x : Value) (d : Data) → k < length items → x ≡ get_or items k x → json_step (opened json_of x) ≡ Ok d → with_data (front ++ d ∷ []) (all_of (map json_of (map plain (drop (k + 1) items)))) ≡ whole
  items_go_on x d lt is written =
      let rest = all_of (map json_of (map plain (drop (k + 1) items))) in
      let step = ap (then (λ (d : Data). then (λ (ds : List Data). Ok (d ∷ ds)) rest)) (json_of-plain x ∙ written) in
      with_data-push front d rest ∙ ap (with_data front) (sym step) ∙ ap (λ l. with_data front (all_of (map json_of (map plain l)))) (sym (item_left x lt is)) ∙ so_far

  -- an item has a fault
  pub items_fail : (x : Value) (fault : JsonFault) → k < length items → x ≡ get_or items k x → json_step (opened json_of x) ≡ Err fault → whole ≡ Err fault
  items_fail x fault lt is written =
      let rest = all_of (map json_of (map plain (drop (k + 1) items))) in
      let step = ap (then (λ (d : Data). then (λ (ds : List Data). Ok (d ∷ ds)) rest)) (json_of-plain x ∙ written) in
      sym so_far ∙ ap (λ l. with_data front (all_of (map json_of (map plain l)))) (item_left x lt is) ∙ ap (with_data front) step

  -- no item is left
  pub items_done : length items ≤ k → whole ≡ Ok front
  items_done le = sym so_far ∙ ap (λ l. with_data front (all_of (map json_of (map plain l)))) (drop_all k items le) ∙ ap Ok (append-nil front)

-- the field at a place and those behind it
field_left : (fs : List (List ℕ × Plain)) (i : ℕ) (name : List ℕ) (x : Plain) → Some name ≡ option_map (λ f. f.0) (slice_get fs i) → Some x ≡ option_map (λ f. f.1) (slice_get fs i) → drop i fs ≡ (name, x) ∷ drop (suc i) fs
field_left [] i name x named is = cc
field_left (f ∷ fs) zero name x named is = let first : name ≡ f.0 = cc in let second : x ≡ f.1 = cc in rw (first, second) refl
field_left (f ∷ fs) (suc i) name x named is = field_left fs i name x named is

module _ (before : Members) (fs : List (List ℕ × Plain)) (i : ℕ) (whole : Result Members JsonFault)
    (so_far : members_from before (map json_field (drop i fs)) ≡ whole) where
  -- a field is written
  pub fields_go_on : (name : List ℕ) (x : Value) (d : Data) → Some name ≡ option_map (λ f. f.0) (slice_get fs i) → Some (plain x) ≡ option_map (λ f. f.1) (slice_get fs i) → json_step (opened json_of x) ≡ Ok d → members_from (put name d before) (map json_field (drop (i + 1) fs)) ≡ whole
  fields_go_on name x d named is written =
      let step = ap (then (λ (d : Data). members_from (put name d before) (map json_field (drop (suc i) fs)))) (json_of-plain x ∙ written) in
      rw add-one (sym step ∙ ap (λ l. members_from before (map json_field l)) (sym (field_left fs i name (plain x) named is)) ∙ so_far)

  -- a field has a fault
  pub fields_fail : (name : List ℕ) (x : Value) (fault : JsonFault) → Some name ≡ option_map (λ f. f.0) (slice_get fs i) → Some (plain x) ≡ option_map (λ f. f.1) (slice_get fs i) → json_step (opened json_of x) ≡ Err fault → whole ≡ Err fault
  fields_fail name x fault named is written =
      let step = ap (then (λ (d : Data). members_from (put name d before) (map json_field (drop (suc i) fs)))) (json_of-plain x ∙ written) in
      sym so_far ∙ ap (λ l. members_from before (map json_field l)) (field_left fs i name (plain x) named is) ∙ step

  -- no field is left
  pub fields_done : length fs ≤ i → whole ≡ Ok before
  fields_done le = sym so_far ∙ ap (λ l. members_from before (map json_field l)) (drop_all i fs le)
