-- The keys that open a schema's fields, by the fields' numbers.
use Rattle.std.proofs.Common.{◌≡◌, ◌+◌, ℕ, zero, suc, List, [], ◌∷◌, length, take, refl, ap, ◌∙◌, arith}
use Rattle.std.specs.Prelude.{slice_index_or}
use Rattle.qe_field.specs.declared.field.Field.{Field}
use Rattle.qe_field.specs.Lookup.{encrypted_from}
use Rattle.qe_labels.specs.Under.{Under, key_of}
use Rattle.qe_encodes.specs.Fields.{kind_at}
use Rattle.qe_opening.specs.Keys.{key_at, key_in, keys_from, opening_keys, place_after}
use Rattle.qe_opening.proofs.PlaceLemmas.{place_of}

key_at-keys_from : (keys : List (List ℕ)) (from place : ℕ) (fields : List Field) (field : ℕ)
    → key_at (keys_from keys place fields) field
    ≡ key_in (slice_index_or keys (place + length (encrypted_from from (take field fields))) []) (kind_at fields field)
key_at-keys_from keys from place [] field = refl
key_at-keys_from keys from place (first ∷ fields) zero =
    let same : place ≡ place + 0 = omega arith in
    ap (λ n. key_in (slice_index_or keys n []) first.kind) same
key_at-keys_from keys from place (first ∷ fields) (suc field) =
    key_at-keys_from keys (from + 1) (place_after place first.kind) fields field
    ∙ ap (λ n. key_in (slice_index_or keys n []) (kind_at fields field)) (place_of from place first (take field fields))

-- a field's values are opened by its key
pub key_at-opening_keys : (u : Under) (field : ℕ) → key_at (opening_keys u) field ≡ key_in (key_of u field) (kind_at u.schema field)
key_at-opening_keys u field =
    key_at-keys_from u.keys 0 0 u.schema field ∙ ap (λ n. key_in (slice_index_or u.keys n []) (kind_at u.schema field)) (omega arith)
