-- The root keys of a schema's fields, by number.
use Rattle.std.specs.Prelude.{◌≡◌, ℕ, ◌+◌, List, [], ◌∷◌, replicate, slice_get, slice_index_or, Some, if◌then◌else◌, true}
use Rattle.qe_field.specs.declared.field.Field.{Field}
use Rattle.qe_field.specs.Lookup.{is_encrypted}
use Rattle.qe_tokens.specs.Tokens.{root_key_of}
use Rattle.qe_tokens.specs.declared.tokens.RootKey.{RootKey}

-- .. a plain field has none, and zeros stand in its place; the place of the first encrypted field's key is given
abbrev pub roots_from : List (List ℕ) → ℕ → List Field → List RootKey
roots_from keys place [] = []
roots_from keys place (field ∷ fields) =
    if is_encrypted field.kind then record { 0 = root_key_of (slice_index_or keys place []) } ∷ roots_from keys (place + 1) fields
    else record { 0 = replicate 32 0 } ∷ roots_from keys place fields

-- a field of the schema that is encrypted
pub record IsEncrypted (fields : List Field) (number : ℕ) : Type 0 where
  pub field : Field
  pub at : slice_get fields number ≡ Some field
  pub encrypted : is_encrypted field.kind ≡ true
