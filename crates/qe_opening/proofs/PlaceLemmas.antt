-- The places of the keys of a schema's fields.
use Rattle.std.proofs.Common.{◌≡◌, ◌<◌, ◌≤◌, ◌+◌, ℕ, true, List, ◌∷◌, length, refl, arith}
use Rattle.qe_field.specs.declared.field.Field.{Field}
use Rattle.qe_field.specs.declared.field.FieldKind.{FieldKind}
use Rattle.qe_field.specs.declared.field.FieldKind.TheVariants as k
use Rattle.qe_field.specs.Lookup.{encrypted_from, is_encrypted}
use Rattle.qe_opening.specs.Keys.{place_after}

-- an encrypted field takes a place
place_by : (from place : ℕ) (path : List ℕ) (kind : FieldKind) (fields : List Field)
    → place_after place kind + length (encrypted_from (from + 1) fields) ≡ place + length (encrypted_from from (record { path = path; kind = kind } ∷ fields))
place_by from place path k.Plain fields = refl
place_by from place path (k.Equality id kind contention greatest) fields = omega arith
place_by from place path (k.Range id kind contention greatest domain) fields = omega arith

pub place_of : (from place : ℕ) (field : Field) (fields : List Field)
    → place_after place field.kind + length (encrypted_from (from + 1) fields) ≡ place + length (encrypted_from from (field ∷ fields))
place_of from place field fields = place_by from place field.path field.kind fields

-- .. below the number of keys
within_by : (from place count : ℕ) (path : List ℕ) (kind : FieldKind) (fields : List Field)
    → place + length (encrypted_from from (record { path = path; kind = kind } ∷ fields)) ≡ count → is_encrypted kind ≡ true → place < count
within_by from place count path k.Plain fields is encrypted = absurd (cc)
within_by from place count path (k.Equality id kind contention greatest) fields is encrypted = omega arith
within_by from place count path (k.Range id kind contention greatest domain) fields is encrypted = omega arith

pub place_within : (from place count : ℕ) (field : Field) (fields : List Field)
    → place + length (encrypted_from from (field ∷ fields)) ≡ count → is_encrypted field.kind ≡ true → place < count
place_within from place count field fields is encrypted = within_by from place count field.path field.kind fields is encrypted

pub place_next : (place : ℕ) (kind : FieldKind) → place_after place kind ≤ place + 1
place_next place k.Plain = omega arith
place_next place (k.Equality id kind contention greatest) = omega arith
place_next place (k.Range id kind contention greatest domain) = omega arith
