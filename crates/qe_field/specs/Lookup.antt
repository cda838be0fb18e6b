-- The field that has a name, and its number.
use Rattle.std.specs.Prelude.{ℕ, ◌+◌, List, [], ◌∷◌, Bool, true, false, bytes_eq, Option, None, Some, option_map, slice_get, if◌then◌else◌}
use Rattle.qe_field.specs.declared.field.Field.{Field}
use Rattle.qe_field.specs.declared.field.FieldKind.{FieldKind}
use Rattle.qe_field.specs.declared.field.FieldKind.TheVariants as k

-- the number and the kind of the first field with a path; the first field's number is given
abbrev pub known_from : ℕ → List ℕ → List Field → Option (ℕ × FieldKind)
known_from i path [] = None
known_from i path (field ∷ fields) = if bytes_eq path field.path then Some (i, field.kind) else known_from (i + 1) path fields

abbrev pub known : List Field → List ℕ → Option (ℕ × FieldKind)
known fields path = known_from 0 path fields

-- the number of the field with a path
abbrev pub number_with : List Field → List ℕ → Option ℕ
number_with fields path = option_map (λ found. found.0) (known fields path)

-- the path of the field of a number, and the empty one where there is no field of the number
abbrev pub path_or_none : Option Field → List ℕ
path_or_none None = []
path_or_none (Some field) = field.path

abbrev pub path_of : List Field → ℕ → List ℕ
path_of fields i = path_or_none (slice_get fields i)

abbrev pub is_encrypted : FieldKind → Bool
is_encrypted k.Plain = false
is_encrypted _ = true

-- the greatest contention of an encrypted field
abbrev pub greatest_of : FieldKind → ℕ
greatest_of k.Plain = 0
greatest_of (k.Equality _ _ _ greatest) = greatest
greatest_of (k.Range _ _ _ greatest _) = greatest

-- the numbers of the encrypted fields, in order
abbrev pub encrypted_from : ℕ → List Field → List ℕ
encrypted_from i [] = []
encrypted_from i (field ∷ fields) = if is_encrypted field.kind then i ∷ encrypted_from (i + 1) fields else encrypted_from (i + 1) fields

abbrev pub encrypted_numbers : List Field → List ℕ
encrypted_numbers fields = encrypted_from 0 fields
