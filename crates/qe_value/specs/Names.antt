-- Named values: look-up by name, and names that are distinct.
use Rattle.std.specs.Prelude.{◌≡◌, ℕ, Bool, false, List, [], ◌∷◌, Option, None, Some, bytes_eq, if◌then◌else◌}
use Rattle.std.specs.List.{list_any}

-- whether a field has the name
abbrev pub is_named : {V : Type 0} → List ℕ → List (List ℕ × V) → Bool
is_named name fields = list_any (λ f. bytes_eq name f.0) fields

-- the value of the field with the name
abbrev pub value_named : {V : Type 0} → List ℕ → List (List ℕ × V) → Option V
value_named name [] = None
value_named name (f ∷ fields) = if bytes_eq name f.0 then Some f.1 else value_named name fields

-- no name stands twice
abbrev pub Distinct : {V : Type 0} → List (List ℕ × V) → Type 0
Distinct [] = Unit {0}
Distinct (f ∷ fields) = (is_named f.0 fields ≡ false) × Distinct fields
