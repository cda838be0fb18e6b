-- What stands under the names of payloads, and how it is taken out of a slot.
use Rattle.std.specs.Prelude.{ℕ, ℤ, pos, List, [], length, replicate, if◌then◌else◌, Option, None, Some, Result, Ok}
use Rattle.std.specs.Ordering.{int_eq}
use Rattle.qe_value.specs.declared.value.Plain.TheVariants.{Int32}
use Rattle.qe_ecoc.specs.declared.forms.Cipher.{Cipher}
use Rattle.qe_ecoc.specs.declared.forms.Cipher.TheVariants.{Old}
use Rattle.qe_ecoc.specs.Forms.{cipher_from}
use Rattle.qe_layout.specs.declared.malformed.Kind.TheVariants.{ProfileOperator, WrongLength, WrongType}
use Rattle.qe_layout.specs.Leaves.{fixed_reads, bytes_reads, int32_reads, natural_reads}
use Rattle.qe_layout.specs.Layouts.{Reader}
use Rattle.qe_layout.specs.Refusal.{Refusal, wrong, bind, map_read}
use Rattle.qe_parts.specs.declared.parts.Part.{Part}
use Rattle.qe_parts.specs.declared.parts.Part.TheVariants as part

-- a token: a binary of 32 bytes and subtype 0
abbrev pub token : Reader Part
token name value = map_read (λ t. part.Token t) (fixed_reads 0 32 name value)

-- bytes have the length of a cipher, or not
abbrev pub of_length : List ℕ → List ℕ → Option Cipher → Result Cipher Refusal
of_length name bytes (Some found) = Ok found
of_length name bytes None = wrong name (WrongLength (length bytes))

-- an IV and a ciphered token, without or with a leaf byte: a binary of 48 or 49 bytes and subtype 0
abbrev pub cipher : Reader Part
cipher name value = map_read (λ t. part.Cipher t) (bind (bytes_reads 0 0 name value) (λ bytes. of_length name bytes (cipher_from bytes)))

-- the id of a key
abbrev pub key_id : Reader Part
key_id name value = map_read (λ t. part.KeyId t) (fixed_reads 4 16 name value)

-- the id of a key and a sealed value
abbrev pub sealed : Reader Part
sealed name value = map_read (λ t. part.Sealed t) (bytes_reads 0 80 name value)

abbrev pub whole : Reader Part
whole name value = map_read (λ t. part.Int32 t) (int32_reads name value)

-- an int64 of 0 or more
abbrev pub number : Reader Part
number name value = map_read (λ t. part.Number t) (natural_reads name value)

-- an int32 that is the operator of its place
abbrev pub operator : ℤ → Reader Part
operator wanted name (Int32 given) = if int_eq given wanted then Ok (part.Int32 given) else wrong name ProfileOperator
operator wanted name _ = wrong name WrongType

-- any value
abbrev pub carried : Reader Part
carried name value = Ok (part.Carried value)

-- what a slot holds; zeros where it holds no such part, which a table's slots don't meet
abbrev pub token_in : Option Part → List ℕ
token_in (Some (part.Token t)) = t
token_in _ = replicate 32 0

abbrev pub cipher_in : Option Part → Cipher
cipher_in (Some (part.Cipher t)) = t
cipher_in _ = Old (replicate 48 0)

abbrev pub key_id_in : Option Part → List ℕ
key_id_in (Some (part.KeyId t)) = t
key_id_in _ = replicate 16 0

abbrev pub sealed_in : Option Part → List ℕ
sealed_in (Some (part.Sealed t)) = t
sealed_in _ = []

abbrev pub whole_in : Option Part → ℤ
whole_in (Some (part.Int32 t)) = t
whole_in _ = pos 0

abbrev pub number_in : Option Part → ℤ
number_in (Some (part.Number t)) = t
number_in _ = pos 0
