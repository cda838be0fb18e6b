-- What a resolved command holds, by the fields of its schema.
use Rattle.std.specs.Prelude.{◌≡◌, ℕ, ◌<◌, ◌≤◌, ℤ, List, All, true, Option, None, Some, slice_get}
use Rattle.std.specs.List.{AllPairs}
use Rattle.qe_value.specs.declared.value.Plain.{Plain}
use Rattle.qe_edges.specs.Rules.{Rules}
use Rattle.qe_field.specs.declared.field.Field.{Field}
use Rattle.qe_field.specs.declared.field.FieldKind.{FieldKind}
use Rattle.qe_field.specs.declared.field.FieldKind.TheVariants as k
use Rattle.qe_field.specs.Lookup.{is_encrypted, greatest_of}
use Rattle.qe_field.specs.Values.{is_id, kind_of, lies_in, number_in}
use Rattle.qe_plain.specs.declared.command.Pair.{Pair}
use Rattle.qe_plain.specs.declared.command.PlainCell.{PlainCell}
use Rattle.qe_plain.specs.declared.command.PlainCommand.{PlainCommand}
use Rattle.qe_plain.specs.declared.command.PlainCommand.TheVariants as c
use Rattle.qe_plain.specs.declared.command.PlainDocument.{PlainDocument}
use Rattle.qe_plain.specs.declared.command.Term.{Term}
use Rattle.qe_plain.specs.declared.command.Term.TheVariants as t
use Rattle.qe_filter.specs.Filters.{interval_of}
use Rattle.qe_filter.specs.Typed.{number_of}

-- the field of a number is kept in a way that allows something
pub record OfField (fields : List Field) (i : ℕ) (Allows : FieldKind → Type 0) : Type 0 where
  pub field : Field
  pub there : slice_get fields i ≡ Some field
  pub allows : Allows field.kind

-- what a field keeps: an encrypted one a value of its type, and a range one such a number of its domain
abbrev pub IsKeptBy : Plain → FieldKind → Type 0
IsKeptBy value k.Plain = Unit {0}
IsKeptBy value (k.Equality _ kind _ _) = kind_of value ≡ kind
IsKeptBy value (k.Range _ kind _ _ domain) = (kind_of value ≡ kind) × (lies_in domain.min domain.max (number_in value) ≡ true)

abbrev pub IsCell : List Field → PlainCell → Type 0
IsCell fields cell = OfField fields cell.field (IsKeptBy cell.value)

-- the cells of a document or a set, in rising field number
pub record AreCells (fields : List Field) (cells : List PlainCell) : Type 0 where
  pub each : All (IsCell fields) cells
  pub rise : AllPairs (λ a b. a.field < b.field) cells

-- a document to insert
pub record IsInserted (fields : List Field) (document : PlainDocument) : Type 0 where
  pub id : is_id document.id ≡ true
  pub cells : AreCells fields document.cells

-- an equality field of the value's type
abbrev pub IsEqualityOf : Plain → FieldKind → Type 0
IsEqualityOf value (k.Equality _ kind _ _) = kind_of value ≡ kind
IsEqualityOf value _ = ⊥

abbrev pub IsRange : FieldKind → Type 0
IsRange (k.Range _ _ _ _ _) = Unit {0}
IsRange _ = ⊥

-- an id is an id, a value has its field's type, and an interval is of a range field
abbrev pub IsTerm : List Field → Term → Type 0
IsTerm fields (t.Id value) = is_id value ≡ true
IsTerm fields (t.Equal i value) = OfField fields i (IsEqualityOf value)
IsTerm fields (t.Between i lo hi) = OfField fields i IsRange

-- an end of an interval: the domain's where none is given, and else the number that is given
abbrev pub IsEnd : ℕ → ℤ → Option Plain → ℤ → Type 0
IsEnd kind missing None z = z ≡ missing
IsEnd kind missing (Some value) z = number_of kind value ≡ Some z

-- the ends that stand in a filter's value, by its elements where it is a document; another value is both
abbrev pub ends_in : Plain → Option (List (List ℕ × Plain)) → Option (Option Plain × Option Plain)
ends_in value None = Some (Some value, Some value)
ends_in value (Some elements) = interval_of elements

-- the term of a range field for a value
pub record IsInterval (i kind : ℕ) (domain : Rules) (given : Option (Option Plain × Option Plain)) (term : Term) : Type 0 where
  pub ends : Option Plain × Option Plain
  pub there : given ≡ Some ends
  pub lo : ℤ
  pub hi : ℤ
  pub is : term ≡ t.Between i lo hi
  pub low : IsEnd kind domain.min ends.0 lo
  pub high : IsEnd kind domain.max ends.1 hi

abbrev pub IsEncrypted : FieldKind → Type 0
IsEncrypted kind = is_encrypted kind ≡ true

-- both fields of a pair are encrypted
abbrev pub IsPair : List Field → Pair → Type 0
IsPair fields pair = OfField fields pair.field IsEncrypted × OfField fields pair.sent IsEncrypted

-- the pairs of a begin, in rising field number
pub record ArePairs (fields : List Field) (pairs : List Pair) : Type 0 where
  pub each : All (IsPair fields) pairs
  pub rise : AllPairs (λ a b. a.field < b.field) pairs

-- an encrypted field whose greatest contention is as great
abbrev pub IsRaisedTo : ℕ → FieldKind → Type 0
IsRaisedTo contention kind = IsEncrypted kind × (contention ≤ greatest_of kind)

-- a command holds what the fields allow
abbrev pub IsResolved : List Field → PlainCommand → Type 0
IsResolved fields (c.Insert document) = IsInserted fields document
IsResolved fields (c.Find terms ids) = All (IsTerm fields) terms
IsResolved fields (c.Update terms set) = All (IsTerm fields) terms × AreCells fields set
IsResolved fields (c.Delete terms) = All (IsTerm fields) terms
IsResolved fields (c.Begin kind pairs) = ArePairs fields pairs
IsResolved fields (c.Step job limit) = (1 ≤ limit) × (limit ≤ 65536)
IsResolved fields (c.End job) = Unit {0}
IsResolved fields (c.Abandon job) = Unit {0}
IsResolved fields (c.Raise i contention) = OfField fields i (IsRaisedTo contention)
