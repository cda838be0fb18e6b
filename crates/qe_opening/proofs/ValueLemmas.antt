-- What is due of a stored value, by what was found of it.
use Rattle.std.proofs.Common.{◌≡◌, ℕ, List, take, drop, Bool, true, false, not, Option, Result, Ok, Err, refl, ap}
use Rattle.std.specs.Prelude.{bytes_eq}
use Rattle.qe_base.specs.Answers.{Refuses}
use Rattle.qe_field.specs.Judgements.{bind, refuse_as}
use Rattle.qe_indexed.specs.declared.fault.IndexedFault.{IndexedFault}
use Rattle.qe_indexed.specs.declared.fault.IndexedFault.TheVariants as indexed
use Rattle.qe_indexed.specs.Faults as of_value
use Rattle.qe_indexed.specs.Parts as parts
use Rattle.qe_indexed.specs.Reading.{indexed_at}
use Rattle.qe_seal.specs.declared.sealed.SealFault.{SealFault}
use Rattle.qe_seal.specs.declared.sealed.SealFault.TheVariants as seal
use Rattle.qe_seal.specs.Enciphered.{deciphered}
use Rattle.qe_seal.specs.Sealed as of_sealed
use Rattle.qe_value.specs.declared.fault.BsonFault.{BsonFault}
use Rattle.qe_value.specs.declared.fault.BsonFault.TheVariants as bson
use Rattle.qe_value.specs.declared.value.Plain.{Plain}
use Rattle.qe_value.specs.Faults.{bson_refusal}
use Rattle.qe_opening.specs.declared.fault.ReadKind.{ReadKind}
use Rattle.qe_opening.specs.declared.fault.ReadKind.TheVariants.{Indexed, KeyDiffers, Seal, Bson}
use Rattle.qe_opening.specs.declared.keys.FieldKey.{FieldKey}
use Rattle.qe_opening.specs.Faults.{of_bson, of_indexed, of_seal, open_refusal}
use Rattle.qe_opening.specs.Opening.{value_in, value_indexed, value_sealed, value_sent, value_with}

-- ---- faults are passed on

pub refuses_indexed : (next : parts.Indexed → Result Plain ReadKind) (fault : IndexedFault) (due : Result parts.Indexed IndexedFault)
    → Refuses (of_value.kept_fault fault) due → Refuses (open_refusal (of_indexed fault)) (bind (refuse_as Indexed due) next)
refuses_indexed next (indexed.BlobSubtype first) due given = ap (λ r. bind (refuse_as Indexed r) next) given
refuses_indexed next indexed.Short due given = ap (λ r. bind (refuse_as Indexed r) next) given
refuses_indexed next indexed.EdgeCountZero due given = ap (λ r. bind (refuse_as Indexed r) next) given
refuses_indexed next indexed.LengthWrong due given = ap (λ r. bind (refuse_as Indexed r) next) given
refuses_indexed next indexed.NoMemory due given = tt

pub refuses_seal : (next : List ℕ → Result Plain ReadKind) (fault : SealFault) (due : Result (List ℕ) SealFault)
    → Refuses (of_sealed.kept_fault fault) due → Refuses (open_refusal (of_seal fault)) (bind (refuse_as Seal due) next)
refuses_seal next seal.TooShort due given = ap (λ r. bind (refuse_as Seal r) next) given
refuses_seal next (seal.MacDiffers want got) due given = ap (λ r. bind (refuse_as Seal r) next) given
refuses_seal next seal.BadLength due given = ap (λ r. bind (refuse_as Seal r) next) given
refuses_seal next seal.BadPadding due given = ap (λ r. bind (refuse_as Seal r) next) given
refuses_seal next seal.NoMemory due given = tt

pub refuses_bson : (fault : BsonFault) (due : Result Plain BsonFault) → Refuses (bson_refusal fault) due → Refuses (open_refusal (of_bson fault)) (refuse_as Bson due)
refuses_bson (bson.At place kind) due given = ap (refuse_as Bson) given
refuses_bson bson.NoMemory due given = tt

-- ---- values

-- what was sent under the key's id, and under another
pub value_sent-own : (key : FieldKey) (kind : ℕ) (sent sealed : List ℕ) → bytes_eq (take 16 sent) key.key_id ≡ true → sealed ≡ drop 16 sent
    → value_sent key kind sent ≡ value_sealed key kind sealed
unfolding value_sent
value_sent-own key kind sent sealed same rest = rw (same, rest)

pub value_sent-other : (key : FieldKey) (kind : ℕ) (sent : List ℕ) → bytes_eq (take 16 sent) key.key_id ≡ false → value_sent key kind sent ≡ Err KeyDiffers
unfolding value_sent
value_sent-other key kind sent differs = rw differs

-- an indexed value of the key, and of another
pub value_indexed-own : (key : FieldKey) (value : parts.Indexed) (kind : ℕ) (sent : List ℕ) → bytes_eq value.key_id key.key_id ≡ true
    → kind ≡ value.value_kind → sent ≡ deciphered key.cipher.0 value.server_value → value_indexed key value ≡ value_sent key kind sent
unfolding value_indexed
value_indexed-own key value kind sent same is_kind is_sent = rw (same, is_kind, is_sent)

pub value_indexed-other : (key : FieldKey) (value : parts.Indexed) → bytes_eq value.key_id key.key_id ≡ false → value_indexed key value ≡ Err KeyDiffers
unfolding value_indexed
value_indexed-other key value differs = rw differs

-- bytes that are an indexed value
pub value_in-read : (key : Option FieldKey) (bytes : List ℕ) (value : parts.Indexed) → indexed_at bytes ≡ Ok value → value_in key bytes ≡ value_with key value
unfolding value_in
value_in-read key bytes value is = rw is

-- ---- tests that are turned round

pub differ_from_not : (b : Bool) → true ≡ not b → b ≡ false
differ_from_not true is = cc
differ_from_not false is = refl

pub same_from_not : (b : Bool) → false ≡ not b → b ≡ true
same_from_not true is = refl
same_from_not false is = cc
