-- What opens the values of each field.
use Rattle.std.specs.Prelude.{ℕ, ◌+◌, List, [], ◌∷◌, slice_get, slice_index_or, Option, None, Some, option_map, if◌then◌else◌}
use Rattle.std.specs.Option.{option_flatten}
use Rattle.qe_field.specs.declared.field.Field.{Field}
use Rattle.qe_field.specs.declared.field.FieldKind.{FieldKind}
use Rattle.qe_field.specs.declared.field.FieldKind.TheVariants as k
use Rattle.qe_field.specs.Lookup.{is_encrypted}
use Rattle.qe_tokens.specs.Tokens.{root_key_of, server_cipher_of}
use Rattle.qe_labels.specs.Under.{Under}
use Rattle.qe_opening.specs.declared.keys.FieldKey.{FieldKey}

-- a data key, its id, and the token under which the server enciphers
abbrev pub field_key : List ℕ → List ℕ → FieldKey
field_key key id = record { key = key; key_id = id; cipher = record { 0 = server_cipher_of (root_key_of key) } }

-- the id of an encrypted field's key
abbrev pub key_id_if : FieldKind → Option (List ℕ)
key_id_if k.Plain = None
key_id_if (k.Equality key_id _ _ _) = Some key_id
key_id_if (k.Range key_id _ _ _ _) = Some key_id

-- what opens the values of a field that is kept so, under a data key; a plain field has nothing to open
abbrev pub key_in : List ℕ → FieldKind → Option FieldKey
key_in key kind = option_map (field_key key) (key_id_if kind)

-- the next field's key stands behind an encrypted field's
abbrev pub place_after : ℕ → FieldKind → ℕ
place_after place kind = if is_encrypted kind then place + 1 else place

-- of all fields, from the place of the first one's key on
abbrev pub keys_from : List (List ℕ) → ℕ → List Field → List (Option FieldKey)
keys_from keys place [] = []
keys_from keys place (field ∷ fields) =
    key_in (slice_index_or keys place []) field.kind ∷ keys_from keys (place_after place field.kind) fields

abbrev pub opening_keys : Under → List (Option FieldKey)
opening_keys u = keys_from u.keys 0 u.schema

-- of the field of a number; where there is no such field, nothing
abbrev pub key_at : List (Option FieldKey) → ℕ → Option FieldKey
key_at keys field = option_flatten (slice_get keys field)
