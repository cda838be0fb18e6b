-- Names that are distinct at each level.
use Rattle.std.proofs.Common.{◌≡◌, ℕ, Bool, true, false, ◌||◌, ◌&&◌, List, [], ◌∷◌, ◌++◌, map, bytes_eq, refl, ap, ◌∙◌, rules}
use Rattle.std.specs.List.{list_any}
use Rattle.std.proofs.lemmas.List.{map_push}
use Rattle.std.proofs.lemmas.Simd.{map-map}
use Rattle.qe_value.specs.declared.value.Plain.{Plain, the_lemmas}
use Rattle.qe_value.specs.declared.value.Plain.TheVariants as p
use Rattle.qe_value.specs.declared.value.Value.{Value}
use Rattle.qe_value.specs.declared.value.Value.TheVariants as v
use Rattle.qe_value.specs.Kept.{KeepsItems, KeepsValues, KeepsFields}
use Rattle.qe_value.specs.Measures.{are_distinct, all_true, distinct_in, distinct_in_fields, distinct_in_items}
use Rattle.qe_value.specs.Names.{is_named, Distinct}
use Rattle.qe_value.specs.Views.{plain, field_view}

pub distinct_in-Doc : (fs : List (List ℕ × Plain)) → distinct_in (p.Doc fs) ≡ distinct_in_fields fs
unfolding distinct_in
distinct_in-Doc fs = search (rules, the_lemmas, map-map)

pub distinct_in-Array : (vs : List Plain) → distinct_in (p.Array vs) ≡ distinct_in_items vs
unfolding distinct_in
distinct_in-Array vs = search (rules, the_lemmas, map-map)

-- a value that holds no other has no names
pub distinct_leaf : (x : Value) → ((fs : List (List ℕ × Plain)) → x ≡ v.Doc fs → ⊥) → ((vs : List Plain) → x ≡ v.Array vs → ⊥) → distinct_in (plain x) ≡ true
unfolding distinct_in
distinct_leaf (v.Doc fs) no_document no_array = absurd (no_document fs refl)
distinct_leaf (v.Array vs) no_document no_array = absurd (no_array vs refl)
distinct_leaf _ no_document no_array = search (rules, the_lemmas)

-- a test of a list's end
pub all_true-push : (bs : List Bool) (b : Bool) → all_true bs ≡ true → b ≡ true → all_true (bs ++ b ∷ []) ≡ true
all_true-push [] b all one = rw one refl
all_true-push (true ∷ bs) b all one = all_true-push bs b all one
all_true-push (false ∷ bs) b all one = absurd cc

pub values_kept : (fields : List (List ℕ × Value)) (f : List ℕ × Value) → KeepsValues fields → distinct_in (plain f.1) ≡ true → KeepsValues (fields ++ f ∷ [])
values_kept fields f kept one = ap all_true (map_push (λ g. distinct_in (plain g.1)) fields f) ∙ all_true-push (map (λ g. distinct_in (plain g.1)) fields) (distinct_in (plain f.1)) kept one

pub items_kept : (vs : List Value) (x : Value) → KeepsItems vs → distinct_in (plain x) ≡ true → KeepsItems (vs ++ x ∷ [])
items_kept vs x kept one = ap all_true (map_push (λ w. distinct_in (plain w)) vs x) ∙ all_true-push (map (λ w. distinct_in (plain w)) vs) (distinct_in (plain x)) kept one

named-names : (name : List ℕ) (fields : List (List ℕ × Value)) → list_any (λ other. bytes_eq name other) (map (λ f. f.0) (map field_view fields)) ≡ is_named name fields
named-names name [] = refl
named-names name (f ∷ fields) = ap (λ b. bytes_eq name f.0 || b) (named-names name fields)

-- what fields keep is a test of their view
pub fields_distinct : (fields : List (List ℕ × Value)) → KeepsFields fields → distinct_in_fields (map field_view fields) ≡ true
fields_distinct fields kept = rw (names fields kept.0) (inner fields ∙ kept.1)
  where
    names : (fs : List (List ℕ × Value)) → Distinct fs → are_distinct (map (λ f. f.0) (map field_view fs)) ≡ true
    names [] apart = refl
    names (f ∷ fs) apart = rw (named-names f.0 fs ∙ apart.0) (names fs apart.1)

    inner : (fs : List (List ℕ × Value)) → all_true (map (λ f. distinct_in f.1) (map field_view fs)) ≡ all_true (map (λ f. distinct_in (plain f.1)) fs)
    inner [] = refl
    inner (f ∷ fs) = ap (λ b. distinct_in (plain f.1) && b) (inner fs)

pub items_distinct : (vs : List Value) → KeepsItems vs → distinct_in_items (map plain vs) ≡ true
items_distinct vs kept = inner vs ∙ kept
  where
    inner : (ws : List Value) → all_true (map distinct_in (map plain ws)) ≡ all_true (map (λ w. distinct_in (plain w)) ws)
    inner [] = refl
    inner (w ∷ ws) = ap (λ b. distinct_in (plain w) && b) (inner ws)
