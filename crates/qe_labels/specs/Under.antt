-- What all definitions with keys stand under: a schema, and a key for each of its encrypted fields.
use Rattle.std.specs.Prelude.{ℕ, List, [], length, take, slice_index_or}
use Rattle.qe_field.specs.declared.field.Field.{Field}
use Rattle.qe_field.specs.Lookup.{encrypted_numbers}
use Rattle.qe_tokens.specs.Tokens.{root_key_of}

pub record Under : Type 0 where
  pub schema : List Field
  pub keys : List (List ℕ)

-- the key of an encrypted field: keys stand in the order of the encrypted fields
abbrev pub key_of : Under → ℕ → List ℕ
key_of u field = slice_index_or u.keys (length (encrypted_numbers (take field u.schema))) []

-- the root of the field's token tree
unfoldable pub root_of : Under → ℕ → List ℕ
root_of u field = root_key_of (key_of u field)
