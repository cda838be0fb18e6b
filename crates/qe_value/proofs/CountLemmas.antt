-- How many values an item and a field have, beside all of them.
use Rattle.std.proofs.Common.{◌≡◌, ℕ, zero, suc, ◌<◌, ◌≤◌, List, [], ◌∷◌, length, get_or, map, ap, arith}
use Rattle.qe_value.specs.declared.value.Value.{Value}
use Rattle.qe_value.specs.Views.{plain, field_view, size_of, size_of_items, size_of_fields}

-- an item has no more values than all items
pub item_size : (vs : List Value) (k : ℕ) (x : Value) → k < length vs → x ≡ get_or vs k x → size_of (plain x) ≤ size_of_items (map plain vs)
item_size [] k x lt is = absurd (omega arith)
item_size (y ∷ vs) zero x lt is = let same : size_of (plain x) ≡ size_of (plain y) = ap (λ w. size_of (plain w)) is in omega arith
item_size (y ∷ vs) (suc k) x lt is = let inner : size_of (plain x) ≤ size_of_items (map plain vs) = item_size vs k x (omega arith) is in omega arith

-- a field has no more values than all fields
pub field_size : (fs : List (List ℕ × Value)) (k : ℕ) (f : List ℕ × Value) → k < length fs → f ≡ get_or fs k f → size_of (plain f.1) ≤ size_of_fields (map field_view fs)
field_size [] k f lt is = absurd (omega arith)
field_size (g ∷ fs) zero f lt is = let same : size_of (plain f.1) ≡ size_of (plain g.1) = ap (λ (w : List ℕ × Value). size_of (plain w.1)) is in omega arith
field_size (g ∷ fs) (suc k) f lt is = let inner : size_of (plain f.1) ≤ size_of_fields (map field_view fs) = field_size fs k f (omega arith) is in omega arith
