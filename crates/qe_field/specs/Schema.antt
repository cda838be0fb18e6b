-- What a schema that was read is.
use Rattle.std.specs.Prelude.{◌≡◌, ℕ, ◌≤◌, ◌==◌, ◌||◌, List, [], ◌∷◌, length, All, Bool, true, false, bytes_eq}
use Rattle.std.specs.List.{AllPairs, list_any}
use Rattle.qe_edges.specs.Rules.{Rules}
use Rattle.qe_field.specs.declared.field.Field.{Field}
use Rattle.qe_field.specs.declared.field.FieldKind.{FieldKind}
use Rattle.qe_field.specs.declared.field.FieldKind.TheVariants as k
use Rattle.qe_field.specs.Names.{is_path}
use Rattle.qe_field.specs.Reading.{has_key}
use Rattle.qe_field.specs.Shape.{is_int32}

-- a contention is at most the greatest one, and that at most 1,000
pub record IsLimited (contention greatest : ℕ) : Type 0 where
  pub ordered : contention ≤ greatest
  pub small : greatest ≤ 1000

-- the types that a field may have: those of equality fields, and of range fields (bsonspec.org, BSON 1.1)
abbrev pub is_value_kind : ℕ → Bool
is_value_kind kind = list_any (λ other. other == kind) (0x10 ∷ 0x12 ∷ 0x02 ∷ 0x08 ∷ 0x07 ∷ 0x09 ∷ 0x05 ∷ [])

abbrev pub is_number_kind : ℕ → Bool
is_number_kind kind = kind == 0x10 || kind == 0x12

-- the ends of the domain of an int32 field are int32s
abbrev pub EndsFit : ℕ → Rules → Type 0
EndsFit kind domain = kind ≡ 0x10 → (is_int32 domain.min ≡ true) × (is_int32 domain.max ≡ true)

abbrev pub IsKind : FieldKind → Type 0
IsKind k.Plain = Unit {0}
IsKind (k.Equality _ kind contention greatest) = (is_value_kind kind ≡ true) × IsLimited contention greatest
IsKind (k.Range _ kind contention greatest domain) = (is_number_kind kind ≡ true) × EndsFit kind domain × IsLimited contention greatest

-- whether two fields have one key id
abbrev pub same_key_id : FieldKind → FieldKind → Bool
same_key_id k.Plain other = false
same_key_id (k.Equality id _ _ _) other = has_key id other
same_key_id (k.Range id _ _ _ _) other = has_key id other

-- two fields differ in path and key id
pub record Differ (earlier later : Field) : Type 0 where
  pub paths : bytes_eq later.path earlier.path ≡ false
  pub keys : same_key_id later.kind earlier.kind ≡ false

pub record IsField (field : Field) : Type 0 where
  pub path : is_path field.path ≡ true
  pub kind : IsKind field.kind

pub record IsSchema (fields : List Field) : Type 0 where
  pub few : length fields ≤ 64
  pub each : All IsField fields
  pub apart : AllPairs Differ fields
