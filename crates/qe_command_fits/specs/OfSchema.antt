-- What a command that fits a schema is made of.
use Rattle.std.specs.Prelude.{◌≡◌, ℕ, ◌<◌, ◌≤◌, ◌^◌, ◌≤ℤ◌, pos, nat_abs, Bool, true, false, List, length, map, take, slice_get, is_some, Some}
use Rattle.std.specs.List.{AllByRecursion}
use Rattle.std.specs.List.Sorted.{IsStrictlyIncreasing}
use Rattle.qe_value.specs.declared.value.Value.{Value}
use Rattle.qe_value.specs.declared.value.Value.TheVariants as v
use Rattle.qe_tokens.specs.declared.words.FieldToken.{FieldToken}
use Rattle.qe_store.specs.Cells.{AreRising}
use Rattle.qe_field.specs.declared.field.Field.{Field}
use Rattle.qe_field.specs.declared.field.FieldKind.{FieldKind}
use Rattle.qe_field.specs.declared.field.FieldKind.TheVariants as k
use Rattle.qe_field.specs.Lookup.{greatest_of, is_encrypted}
use Rattle.qe_insert.specs.declared.insert.InsertPayload.{InsertPayload}
use Rattle.qe_insert.specs.Insert.{FitsInsert}
use Rattle.qe_find.specs.declared.equal.FindEqual.{FindEqual}
use Rattle.qe_find.specs.declared.range.FindRange.{FindRange}
use Rattle.qe_find.specs.Range.{FitsRange}
use Rattle.qe_command.specs.declared.cells.SentCell.{SentCell}
use Rattle.qe_command.specs.declared.cells.SentCell.TheVariants as sent
use Rattle.qe_command.specs.declared.command.Command.{Command}
use Rattle.qe_command.specs.declared.command.Command.TheVariants as c
use Rattle.qe_command.specs.declared.filter.SentTerm.{SentTerm}
use Rattle.qe_command.specs.declared.filter.SentTerm.TheVariants as t

-- an id is an int32, an int64, a string or an object id
abbrev pub IsIdValue : Value → Type 0
IsIdValue (v.Int32 z) = Unit {0}
IsIdValue (v.Int64 z) = Unit {0}
IsIdValue (v.Str text) = Unit {0}
IsIdValue (v.ObjectId bytes) = Unit {0}
IsIdValue _ = ⊥

-- the schema has a field of this number, of whose kind something holds
pub record IsFieldAt (fields : List Field) (number : ℕ) (Holds : FieldKind → Type 0) : Type 0 where
  pub below : number < length fields
  pub field : Field
  pub there : slice_get fields number ≡ Some field
  pub kind : Holds field.kind

-- a payload is one of its field's: with edges where the field is a range, of the field's type and key, and under a contention
-- factor that isn't above the greatest
pub record IsPayloadOf (range : Bool) (id : List ℕ) (kind greatest : ℕ) (payload : InsertPayload) : Type 0 where
  pub edges : is_some payload.g ≡ range
  pub value_kind : payload.t ≡ pos kind
  pub index_key : payload.u ≡ id
  pub user_key : take 16 payload.v ≡ id
  pub factor : nat_abs payload.k ≤ greatest
  pub form : FitsInsert payload

-- a plain field has a plain value, and an encrypted one a payload
abbrev pub IsCellOf : SentCell → FieldKind → Type 0
IsCellOf (sent.Plain value) k.Plain = Unit {0}
IsCellOf (sent.Payload payload) (k.Equality id kind contention greatest) = IsPayloadOf false id kind greatest payload
IsCellOf (sent.Payload payload) (k.Range id kind contention greatest domain) = IsPayloadOf true id kind greatest payload
IsCellOf _ _ = ⊥

-- cells in the order of their fields, each of which comes once at most
pub record AreCellsOf (fields : List Field) (cells : List (ℕ × SentCell)) : Type 0 where
  pub rising : AreRising cells
  pub each : AllByRecursion (λ cell. IsFieldAt fields cell.0 (IsCellOf cell.1)) cells

-- a value is sought in an equality field, and an interval in a range field, each under factors up to one that isn't above the greatest
abbrev pub IsEqualOf : FindEqual → FieldKind → Type 0
IsEqualOf payload (k.Equality id kind contention greatest) = (pos 0 ≤ℤ payload.cm) × (nat_abs payload.cm ≤ greatest)
IsEqualOf payload _ = ⊥

abbrev pub IsRangeOf : FindRange → FieldKind → Type 0
IsRangeOf payload (k.Range id kind contention greatest domain) = FitsRange payload × (nat_abs payload.cm ≤ greatest)
IsRangeOf payload _ = ⊥

abbrev pub IsTermOf : List Field → SentTerm → Type 0
IsTermOf fields (t.Id id) = IsIdValue id
IsTermOf fields (t.Equal field payload) = IsFieldAt fields field (IsEqualOf payload)
IsTermOf fields (t.Range field payload) = IsFieldAt fields field (IsRangeOf payload)

abbrev pub AreTermsOf : List Field → List SentTerm → Type 0
AreTermsOf fields terms = AllByRecursion (IsTermOf fields) terms

-- tokens of 32 bytes of encrypted fields, in schema order
pub record AreTokensOf (fields : List Field) (tokens : List FieldToken) : Type 0 where
  pub rising : IsStrictlyIncreasing (map (λ sent. sent.field) tokens)
  pub each : AllByRecursion (λ sent. IsFieldAt fields sent.field (λ kind. is_encrypted kind ≡ true)) tokens
  pub long : AllByRecursion (λ sent. length sent.token.0 ≡ 32) tokens

-- a raise is of an encrypted field, and not above its greatest contention
pub record IsRaiseOf (contention : ℕ) (kind : FieldKind) : Type 0 where
  pub encrypted : is_encrypted kind ≡ true
  pub within : contention ≤ greatest_of kind

-- numbers of jobs are int64s, and a step has 1 to 65,536 units
abbrev pub IsOfSchema : List Field → Command → Type 0
IsOfSchema fields (c.Insert id cells) = IsIdValue id × AreCellsOf fields cells
IsOfSchema fields (c.Find terms ids) = AreTermsOf fields terms
IsOfSchema fields (c.Update terms set) = AreTermsOf fields terms × AreCellsOf fields set
IsOfSchema fields (c.Delete terms) = AreTermsOf fields terms
IsOfSchema fields (c.Begin kind tokens) = AreTokensOf fields tokens
IsOfSchema fields (c.Step job limit) = (job < 2 ^ 63) × ((1 ≤ limit) × (limit ≤ 65536))
IsOfSchema fields (c.End job) = job < 2 ^ 63
IsOfSchema fields (c.Abandon job) = job < 2 ^ 63
IsOfSchema fields (c.Raise field contention) = IsFieldAt fields field (IsRaiseOf contention)
