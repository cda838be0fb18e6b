-- Names of fields: seen through the fields' view, and kept distinct.
use Rattle.std.proofs.Common.{◌≡◌, ℕ, Bool, true, false, ◌||◌, List, [], ◌∷◌, ◌++◌, map, bytes_eq, refl, sym, ap, ◌∙◌, arith, true≢false}
use Rattle.std.proofs.lemmas.Bool.{or_parts}
use Rattle.std.proofs.lemmas.Slice.Eq.{bytes_eq-Decides}
use Rattle.qe_value.specs.declared.value.Value.{Value}
use Rattle.qe_value.specs.Names.{is_named, Distinct}
use Rattle.qe_value.specs.Views.{field_view}

-- the view of fields has their names
pub is_named-view : (name : List ℕ) (fields : List (List ℕ × Value)) → is_named name (map field_view fields) ≡ is_named name fields
is_named-view name [] = refl
is_named-view name (f ∷ fields) = ap (λ b. bytes_eq name f.0 || b) (is_named-view name fields)

pub Distinct-view : (fields : List (List ℕ × Value)) → Distinct fields → Distinct (map field_view fields)
Distinct-view [] apart = tt
Distinct-view (f ∷ fields) apart = (is_named-view f.0 fields ∙ apart.0, Distinct-view fields apart.1)

pub Distinct-from_view : (fields : List (List ℕ × Value)) → Distinct (map field_view fields) → Distinct fields
Distinct-from_view [] apart = tt
Distinct-from_view (f ∷ fields) apart = (sym (is_named-view f.0 fields) ∙ apart.0, Distinct-from_view fields apart.1)

either_test : (p q : Bool) → (p ≡ true → q ≡ true) → q ≡ false → p ≡ false
either_test true q implied is_false = absurd (true≢false (sym (implied refl) ∙ is_false))
either_test false q implied is_false = refl

pub bytes_differ : (a b : List ℕ) → bytes_eq a b ≡ false → bytes_eq b a ≡ false
bytes_differ a b differ = either_test (bytes_eq b a) (bytes_eq a b) (λ e. (bytes_eq-Decides a b).1 (sym ((bytes_eq-Decides b a).0 e))) differ

pub is_named-append : {V : Type 0} (name : List ℕ) (fields more : List (List ℕ × V)) → is_named name (fields ++ more) ≡ (is_named name fields || is_named name more)
is_named-append name [] more = refl
is_named-append name (f ∷ fields) more = grind (arith, is_named-append name fields more)

-- a field with a new name leaves names distinct
pub Distinct-push : {V : Type 0} (fields : List (List ℕ × V)) (f : List ℕ × V) → Distinct fields → is_named f.0 fields ≡ false → Distinct (fields ++ f ∷ [])
Distinct-push [] f apart new = (refl, tt)
Distinct-push (g ∷ fields) f apart new =
    let parts = or_parts (bytes_eq f.0 g.0) (is_named f.0 fields) new in
    (is_named-append g.0 fields (f ∷ []) ∙ rw (apart.0, bytes_differ f.0 g.0 parts.0), Distinct-push fields f apart.1 parts.1)

-- a name among distinct ones isn't among those before it
pub Distinct-middle : {V : Type 0} (before : List (List ℕ × V)) (f : List ℕ × V) (after : List (List ℕ × V)) → Distinct (before ++ f ∷ after) → is_named f.0 before ≡ false
Distinct-middle [] f after apart = refl
Distinct-middle (g ∷ before) f after apart =
    let parts = or_parts (is_named g.0 before) (is_named g.0 (f ∷ after)) (sym (is_named-append g.0 before (f ∷ after)) ∙ apart.0) in
    let differ = or_parts (bytes_eq g.0 f.0) (is_named g.0 after) parts.1 in
    rw (bytes_differ g.0 f.0 differ.0, Distinct-middle before f after apart.1) refl
