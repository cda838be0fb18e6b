-- Payloads that stand under an encrypted field.
use Rattle.std.specs.Prelude.{ℕ, pos, ◌==◌, ◌&&◌, not, nat_abs, nat_lt, List, [], ◌∷◌, take, bytes_eq, Bool, true, false, is_some, Option, None, Some, Result, Ok, if◌then◌else◌}
use Rattle.std.specs.Ordering.{int_eq}
use Rattle.qe_value.specs.declared.value.Plain.{Plain}
use Rattle.qe_value.specs.declared.value.Plain.TheVariants.{Binary}
use Rattle.qe_layout.specs.declared.malformed.Kind.TheVariants.{KindDiffers, KeyDiffers, ContentionAbove}
use Rattle.qe_layout.specs.Blobs.{read_under}
use Rattle.qe_layout.specs.Documents.{of_type}
use Rattle.qe_layout.specs.Layouts.{Reader}
use Rattle.qe_layout.specs.Refusal.{Refusal, wrong, bind}
use Rattle.qe_insert.specs.declared.insert.InsertPayload.{InsertPayload}
use Rattle.qe_insert.specs.Insert.{insert_at}
use Rattle.qe_find.specs.declared.equal.FindEqual.{FindEqual}
use Rattle.qe_find.specs.declared.range.FindRange.{FindRange}
use Rattle.qe_find.specs.Equal.{equal_at}
use Rattle.qe_find.specs.Range.{range_at}

-- the bytes of a binary of subtype 6
abbrev pub blob_in : Plain → Option (List ℕ)
blob_in (Binary subtype bytes) = if subtype == 6 then Some bytes else None
blob_in _ = None

-- there is a first byte, and it is another
abbrev pub begins_otherwise : ℕ → List ℕ → Bool
begins_otherwise kind [] = false
begins_otherwise kind (first ∷ rest) = not (first == kind)

abbrev pub of_first : ℕ → List ℕ → List ℕ → Result (List ℕ) Refusal
of_first kind name blob = if begins_otherwise kind blob then wrong name KindDiffers else Ok blob

-- a blob: its type, and its first byte
abbrev pub blob_reads : ℕ → Reader (List ℕ)
blob_reads kind name value = bind (of_type name (blob_in value)) (of_first kind name)

-- and then what it holds; the path of the whole is the field's
abbrev pub payload_reads : {P : Type 0} → ℕ → (List ℕ → Result P Refusal) → Reader P
payload_reads kind at name value = bind (blob_reads kind name value) (λ blob. read_under name (at blob))

-- a contention factor isn't above the greatest
abbrev pub factor_within : {P : Type 0} → ℕ → ℕ → List ℕ → P → Result P Refusal
factor_within greatest factor name payload = if nat_lt greatest factor then wrong name (ContentionAbove factor greatest) else Ok payload

-- the index key and the user key are the field's
abbrev pub has_key : List ℕ → InsertPayload → Bool
has_key id payload = bytes_eq payload.u id && bytes_eq (take 16 payload.v) id

-- edges are there where the field is a range, and the type is the field's
abbrev pub has_kind : Bool → ℕ → InsertPayload → Bool
has_kind true kind payload = is_some payload.g && int_eq payload.t (pos kind)
has_kind false kind payload = not (is_some payload.g) && int_eq payload.t (pos kind)

-- the payload is its field's: the kind, the key and the factor
abbrev pub of_field : Bool → List ℕ → ℕ → ℕ → List ℕ → InsertPayload → Result InsertPayload Refusal
of_field range id kind greatest name payload =
    if has_kind range kind payload then (if has_key id payload then factor_within greatest (nat_abs payload.k) name payload else wrong name KeyDiffers)
    else wrong name KindDiffers

-- what is sent to insert or set a value
abbrev pub insert_reads_of : Bool → List ℕ → ℕ → ℕ → Reader InsertPayload
insert_reads_of range id kind greatest name value = bind (payload_reads 11 insert_at name value) (of_field range id kind greatest name)

-- what is sent to find a value, or a range
abbrev pub equal_reads_of : ℕ → Reader FindEqual
equal_reads_of greatest name value = bind (payload_reads 12 equal_at name value) (λ payload. factor_within greatest (nat_abs payload.cm) name payload)

abbrev pub range_reads_of : ℕ → Reader FindRange
range_reads_of greatest name value = bind (payload_reads 13 range_at name value) (λ payload. factor_within greatest (nat_abs payload.cm) name payload)
