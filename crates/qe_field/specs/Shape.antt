-- The form of a field object: which names it has, and of which types their values are.
use Rattle.std.specs.Prelude.{ℕ, ◌&&◌, ◌||◌, ◌==◌, ℤ, pos, negsuc, int_le, is_some, List, length, codes, Bool, not, bytes_eq, Option, None, Some, option_map, if◌then◌else◌}
use Rattle.std.specs.List.{list_all}
use Rattle.qe_value.specs.declared.value.Plain.{Plain}
use Rattle.qe_value.specs.Names.{value_named}
use Rattle.qe_value.specs.Views.{fields_of}
use Rattle.qe_field.specs.declared.shape.Rules.{Rules}
use Rattle.qe_field.specs.declared.shape.Encrypted.{Encrypted}
use Rattle.qe_field.specs.declared.shape.Shape.{Shape}
use Rattle.qe_field.specs.Values.{number_in, text_in}

infixl 10 ◌>>=◌
abbrev pub ◌>>=◌ : {A B : Type 0} → Option A → (A → Option B) → Option B
None >>= next = None
Some x >>= next = next x

-- what an encrypted field's object holds besides its path; only a range field has rules
pub record EncryptedForm : Type 0 where
  pub value_type : List ℕ
  pub key_id : List ℕ
  pub contention : Option ℤ
  pub greatest : Option ℤ
  pub rules : Option Rules

-- what a field object holds; a plain field's has a path alone
pub record FieldForm : Type 0 where
  pub path : List ℕ
  pub encrypted : Option EncryptedForm

abbrev pub encrypted_view : Encrypted → EncryptedForm
encrypted_view it = record { value_type = it.value_type.now; key_id = it.key_id.now; contention = it.contention; greatest = it.greatest; rules = it.rules }

abbrev pub shape_view : Shape → FieldForm
shape_view it = record { path = it.path.now; encrypted = option_map encrypted_view it.encrypted }

abbrev pub text_named : List ℕ → List (List ℕ × Plain) → Option (List ℕ)
text_named name elements = value_named name elements >>= text_in

abbrev pub number_named : List ℕ → List (List ℕ × Plain) → Option ℤ
number_named name elements = value_named name elements >>= number_in

-- a number that may be missing; None: another value stands there
abbrev pub number_if : Option Plain → Option (Option ℤ)
number_if None = Some None
number_if (Some value) = option_map Some (number_in value)

abbrev pub number_if_named : List ℕ → List (List ℕ × Plain) → Option (Option ℤ)
number_if_named name elements = number_if (value_named name elements)

abbrev pub is_int32 : ℤ → Bool
is_int32 z = int_le (negsuc 2147483647) z && int_le z (pos 2147483647)

-- the ends of an int field's domain are int32s
abbrev pub ends_fit : List ℕ → ℤ → ℤ → Bool
ends_fit value_type low high = not (bytes_eq value_type (codes "int")) || (is_int32 low && is_int32 high)

unfoldable pub rules_in : List ℕ → List (List ℕ × Plain) → Option Rules
rules_in value_type elements = do
  low ← number_named (codes "min") elements
  high ← number_named (codes "max") elements
  sparsity ← number_if_named (codes "sparsity") elements
  trim ← number_if_named (codes "trimFactor") elements
  if ends_fit value_type low high then Some (record { min = low; max = high; sparsity = sparsity; trim = trim }) else None

-- the rules that the query asks for: a range has them, an equality has none
abbrev pub rules_if_range : List ℕ → List ℕ → List (List ℕ × Plain) → Option (Option Rules)
rules_if_range query value_type elements =
    if bytes_eq query (codes "range") then option_map Some (rules_in value_type elements)
    else if bytes_eq query (codes "equality") then Some None
    else None

-- the names of an encrypted field's object
abbrev pub is_encrypted_name : List ℕ → Bool
is_encrypted_name name =
    bytes_eq name (codes "path") || (bytes_eq name (codes "bsonType") || (bytes_eq name (codes "keyId")
    || (bytes_eq name (codes "query") || (bytes_eq name (codes "contention") || bytes_eq name (codes "greatest")))))

-- .. and a range field's beside them
abbrev pub is_rule_name : List ℕ → Bool
is_rule_name name =
    bytes_eq name (codes "min") || (bytes_eq name (codes "max") || (bytes_eq name (codes "sparsity") || bytes_eq name (codes "trimFactor")))

abbrev pub is_known : Bool → List ℕ × Plain → Bool
is_known ranged element = is_encrypted_name element.0 || (ranged && is_rule_name element.0)

unfoldable pub encrypted_in : List (List ℕ × Plain) → Option EncryptedForm
encrypted_in elements = do
  value_type ← text_named (codes "bsonType") elements
  key_id ← text_named (codes "keyId") elements
  query ← text_named (codes "query") elements
  contention ← number_if_named (codes "contention") elements
  greatest ← number_if_named (codes "greatest") elements
  rules ← rules_if_range query value_type elements
  Some (record { value_type = value_type; key_id = key_id; contention = contention; greatest = greatest; rules = rules })

abbrev pub no_other_name : List (List ℕ × Plain) → EncryptedForm → Option EncryptedForm
no_other_name elements form = if list_all (is_known (is_some form.rules)) elements then Some form else None

-- one name, the path: a plain field; every other object is an encrypted field's
unfoldable pub shape_in : List (List ℕ × Plain) → Option FieldForm
shape_in elements = do
  path ← text_named (codes "path") elements
  if length elements == 1 then Some (record { path = path; encrypted = None }) else do
    form ← encrypted_in elements
    checked ← no_other_name elements form
    Some (record { path = path; encrypted = Some checked })

abbrev pub shape_of : Plain → Option FieldForm
shape_of value = fields_of value >>= shape_in
