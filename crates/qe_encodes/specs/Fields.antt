-- The fields of a schema, and what must hold of a schema and its keys.
use Rattle.std.specs.Prelude.{◌≡◌, ℕ, List, [], length, All, Option, None, Some, slice_get}
use Rattle.qe_base.specs.Bytes.{AreBytes}
use Rattle.qe_aes.specs.Laws.{IsBlock}
use Rattle.qe_edges.specs.Rules.{IsDomain}
use Rattle.qe_field.specs.declared.field.Field.{Field}
use Rattle.qe_field.specs.declared.field.FieldKind.{FieldKind}
use Rattle.qe_field.specs.declared.field.FieldKind.TheVariants as k
use Rattle.qe_field.specs.Lookup.{encrypted_numbers}
use Rattle.qe_field.specs.Schema.{IsSchema}
use Rattle.qe_labels.specs.Under.{Under}

abbrev pub kind_or_plain : Option Field → FieldKind
kind_or_plain None = k.Plain
kind_or_plain (Some field) = field.kind

-- how the field of a number is kept
abbrev pub kind_at : List Field → ℕ → FieldKind
kind_at fields field = kind_or_plain (slice_get fields field)

-- the id of the field's key; a plain field has none
abbrev pub key_id_in : FieldKind → List ℕ
key_id_in k.Plain = []
key_id_in (k.Equality key_id _ _ _) = key_id
key_id_in (k.Range key_id _ _ _ _) = key_id

-- the id of a field's key
abbrev pub key_id_of : Under → ℕ → List ℕ
key_id_of u field = key_id_in (kind_at u.schema field)

-- a data key
pub record IsKey (key : List ℕ) : Type 0 where
  pub long : length key ≡ 96
  pub bytes : AreBytes key

-- key ids have 16 bytes, and the rules of a range field make a domain
abbrev pub IsKeyed : FieldKind → Type 0
IsKeyed k.Plain = Unit {0}
IsKeyed (k.Equality key_id _ _ _) = IsBlock key_id
IsKeyed (k.Range key_id _ _ _ domain) = IsBlock key_id × IsDomain domain

-- a schema that is one, and a key for each of its encrypted fields
pub record IsUnder (u : Under) : Type 0 where
  pub schema : IsSchema u.schema
  pub fields : All (λ field. IsKeyed field.kind) u.schema
  pub many : length u.keys ≡ length (encrypted_numbers u.schema)
  pub keys : All IsKey u.keys
