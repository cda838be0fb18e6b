-- What those who hold a field's key read of stored bytes: the value, or the first fault. Values are laid out after
-- IndexedEqualityEncryptedValueV2 and IndexedRangeEncryptedValueV2 of libmongocrypt.
use Rattle.std.specs.Prelude.{ℕ, List, take, drop, bytes_eq, Option, None, Some, Result, Err, if◌then◌else◌}
use Rattle.qe_field.specs.Judgements.{bind, refuse_as}
use Rattle.qe_indexed.specs.Parts as parts
use Rattle.qe_indexed.specs.Reading.{indexed_at}
use Rattle.qe_seal.specs.Enciphered.{deciphered}
use Rattle.qe_seal.specs.Sealed.{opened_value}
use Rattle.qe_value.specs.declared.value.Plain.{Plain}
use Rattle.qe_value.specs.Reading.{alone_at}
use Rattle.qe_opening.specs.declared.fault.ReadKind.{ReadKind}
use Rattle.qe_opening.specs.declared.fault.ReadKind.TheVariants.{Indexed, KeyDiffers, Seal, Bson}
use Rattle.qe_opening.specs.declared.keys.FieldKey.{FieldKey}

-- the value of a type that the sealed bytes are
abbrev pub value_sealed : FieldKey → ℕ → List ℕ → Result Plain ReadKind
value_sealed key kind sealed = bind (refuse_as Seal (opened_value key.key key.key_id sealed)) (λ bytes. refuse_as Bson (alone_at kind bytes))

-- what was sent is the key's id, and behind it the sealed bytes
unfoldable pub value_sent : FieldKey → ℕ → List ℕ → Result Plain ReadKind
value_sent key kind sent = if bytes_eq (take 16 sent) key.key_id then value_sealed key kind (drop 16 sent) else Err KeyDiffers

-- an indexed value names the key's id, and holds what was sent, enciphered
unfoldable pub value_indexed : FieldKey → parts.Indexed → Result Plain ReadKind
value_indexed key indexed =
    if bytes_eq indexed.key_id key.key_id then value_sent key indexed.value_kind (deciphered key.cipher.0 indexed.server_value) else Err KeyDiffers

-- a plain field has no key
abbrev pub value_with : Option FieldKey → parts.Indexed → Result Plain ReadKind
value_with None indexed = Err KeyDiffers
value_with (Some key) indexed = value_indexed key indexed

-- the value of stored bytes
unfoldable pub value_in : Option FieldKey → List ℕ → Result Plain ReadKind
value_in key bytes = bind (refuse_as Indexed (indexed_at bytes)) (value_with key)
