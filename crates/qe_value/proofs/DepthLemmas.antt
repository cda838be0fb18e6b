-- How deep a value is, level by level, and where a name holds the byte 0.
use Rattle.std.proofs.Common.{◌≡◌, ℕ, zero, suc, ◌+◌, ◌<◌, ◌≤◌, ◌||◌, Bool, false, List, ◌∷◌, length, get_or, map, drop, drop-cons, add-one, refl, arith, rules}
use Rattle.std.specs.List.{AllByRecursion}
use Rattle.std.proofs.lemmas.Simd.{map-map}
use Rattle.qe_value.specs.declared.value.Plain.{Plain, out-Plain, the_lemmas}
use Rattle.qe_value.specs.declared.value.Plain.TheVariants as p
use Rattle.qe_value.specs.declared.value.Value.{Value}
use Rattle.qe_value.specs.declared.value.Value.TheVariants as v
use Rattle.qe_value.specs.Names.{Distinct}
use Rattle.qe_value.specs.Spelling.{Fits_with, LeafFits, FieldsFit, ItemsFit}
use Rattle.qe_value.proofs.OneLevelLemmas.{FieldFits, ItemFits}
use Rattle.qe_value.proofs.PlainLemmas as tree
use Rattle.qe_value.specs.Views.{plain, field_view}
use Rattle.qe_value.specs.Measures.{greatest, depth, fields_depth, items_depth, holds_zero, zero_in, zero_in_fields, zero_in_items}

pub depth-Doc : (fs : List (List ℕ × Plain)) → depth (p.Doc fs) ≡ fields_depth fs
unfolding depth
depth-Doc fs = search (rules, the_lemmas, map-map)

pub depth-Array : (vs : List Plain) → depth (p.Array vs) ≡ items_depth vs
unfolding depth
depth-Array vs = search (rules, the_lemmas, map-map)

pub zero_in-Array : (vs : List Plain) → zero_in (p.Array vs) ≡ zero_in_items vs
unfolding zero_in
zero_in-Array vs = search (rules, the_lemmas, map-map)

pub zero_in-Doc : (fs : List (List ℕ × Plain)) → zero_in (p.Doc fs) ≡ zero_in_fields fs
unfolding zero_in
zero_in-Doc fs = search (rules, the_lemmas, map-map)

-- a value that holds no other has depth 0
pub depth_leaf : (x : Value) → ((fs : List (List ℕ × Plain)) → x ≡ v.Doc fs → ⊥) → ((vs : List Plain) → x ≡ v.Array vs → ⊥) → depth (plain x) ≡ 0
unfolding depth
depth_leaf (v.Doc fs) no_document no_array = absurd (no_document fs refl)
depth_leaf (v.Array vs) no_document no_array = absurd (no_array vs refl)
depth_leaf _ no_document no_array = search (rules, the_lemmas)

-- a value that holds no other has no name
pub zero_leaf : (x : Value) → ((fs : List (List ℕ × Plain)) → x ≡ v.Doc fs → ⊥) → ((vs : List Plain) → x ≡ v.Array vs → ⊥) → zero_in (plain x) ≡ false
unfolding zero_in
zero_leaf (v.Doc fs) no_document no_array = absurd (no_document fs refl)
zero_leaf (v.Array vs) no_document no_array = absurd (no_array vs refl)
zero_leaf _ no_document no_array = search (rules, the_lemmas)

-- a value that holds no other fits by its type
pub leaf_fits : (Fields : List (List ℕ × Plain) → Type 0) (Items : List Plain → Type 0) (x : Value) → ((fs : List (List ℕ × Plain)) → x ≡ v.Doc fs → ⊥) → ((vs : List Plain) → x ≡ v.Array vs → ⊥) → LeafFits (plain x) → Fits_with Fields Items (out-Plain (plain x))
leaf_fits Fields Items (v.Double b) no_document no_array known = rw (tree.out-Double b) (rw (tree.out-Double b) at known)
leaf_fits Fields Items (v.Str t) no_document no_array known = rw (tree.out-Str t) (rw (tree.out-Str t) at known)
leaf_fits Fields Items (v.Doc fs) no_document no_array known = absurd (no_document fs refl)
leaf_fits Fields Items (v.Array vs) no_document no_array known = absurd (no_array vs refl)
leaf_fits Fields Items (v.Binary s b) no_document no_array known = rw (tree.out-Binary s b) (rw (tree.out-Binary s b) at known)
leaf_fits Fields Items (v.ObjectId b) no_document no_array known = rw (tree.out-ObjectId b) (rw (tree.out-ObjectId b) at known)
leaf_fits Fields Items (v.Bool b) no_document no_array known = rw (tree.out-Bool b) (rw (tree.out-Bool b) at known)
leaf_fits Fields Items (v.Date z) no_document no_array known = rw (tree.out-Date z) (rw (tree.out-Date z) at known)
leaf_fits Fields Items v.Null no_document no_array known = rw (tree.out-Null) (rw (tree.out-Null) at known)
leaf_fits Fields Items (v.Int32 z) no_document no_array known = rw (tree.out-Int32 z) (rw (tree.out-Int32 z) at known)
leaf_fits Fields Items (v.Timestamp n) no_document no_array known = rw (tree.out-Timestamp n) (rw (tree.out-Timestamp n) at known)
leaf_fits Fields Items (v.Int64 z) no_document no_array known = rw (tree.out-Int64 z) (rw (tree.out-Int64 z) at known)
leaf_fits Fields Items (v.Decimal b) no_document no_array known = rw (tree.out-Decimal b) (rw (tree.out-Decimal b) at known)

-- ---- fields and items that are left

abbrev pub depths_of_fields : List (List ℕ × Value) → List ℕ
depths_of_fields fs = map (λ f. depth f.1) (map field_view fs)

abbrev pub zeros_of_fields : List (List ℕ × Value) → List Bool
zeros_of_fields fs = map (λ f. holds_zero f.0 || zero_in f.1) (map field_view fs)

abbrev pub depths_of_items : List Value → List ℕ
depths_of_items vs = map depth (map plain vs)

abbrev pub zeros_of_items : List Value → List Bool
zeros_of_items vs = map zero_in (map plain vs)

-- what is left begins with the next
pub next : {A : Type 0} (xs : List A) (i : ℕ) (x : A) → i < length xs → x ≡ get_or xs i x → drop i xs ≡ x ∷ drop (i + 1) xs
next xs i x lt is = rw (drop-cons xs i x lt, add-one, ← is) refl

abbrev pub FieldsLeftFit : ℕ → List (List ℕ × Value) → Type 0
FieldsLeftFit room fs = AllByRecursion (FieldFits (FieldsFit room) (ItemsFit room)) (map field_view fs)

abbrev pub ItemsLeftFit : ℕ → List Value → Type 0
ItemsLeftFit room vs = AllByRecursion (ItemFits (FieldsFit room) (ItemsFit room)) (map plain vs)

-- fields that fit at one level less, with distinct names, fit
pub fields_fit : (room : ℕ) (fs : List (List ℕ × Plain)) → Distinct fs → fields_depth fs ≤ room → ((r : ℕ) → greatest (map (λ f. depth f.1) fs) ≤ r → AllByRecursion (FieldFits (FieldsFit r) (ItemsFit r)) fs) → FieldsFit room fs
unfolding FieldsFit
fields_fit zero fs apart deep each = absurd (omega arith)
fields_fit (suc room) fs apart deep each = (apart, each room (omega arith))

pub items_fit : (room : ℕ) (vs : List Plain) → items_depth vs ≤ room → ((r : ℕ) → greatest (map depth vs) ≤ r → AllByRecursion (ItemFits (FieldsFit r) (ItemsFit r)) vs) → ItemsFit room vs
unfolding FieldsFit
items_fit zero vs deep each = absurd (omega arith)
items_fit (suc room) vs deep each = each room (omega arith)
