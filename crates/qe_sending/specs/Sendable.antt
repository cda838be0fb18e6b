-- What can be sent: values that are kept by their fields, and numbers within their limits.
use Rattle.std.specs.Prelude.{◌≡◌, ℕ, ◌≤◌, ◌^◌, Bool, true, false, List, All, length, map}
use Rattle.std.specs.List.Sorted.{IsStrictlyIncreasing}
use Rattle.qe_value.specs.declared.value.Plain.{Plain}
use Rattle.qe_field.specs.declared.field.Field.{Field}
use Rattle.qe_field.specs.declared.field.FieldKind.{FieldKind}
use Rattle.qe_field.specs.declared.field.FieldKind.TheVariants as k
use Rattle.qe_field.specs.Lookup.{greatest_of, is_encrypted}
use Rattle.qe_field.specs.Schema.{is_value_kind}
use Rattle.qe_field.specs.Values.{kind_of}
use Rattle.qe_plain.specs.declared.command.Pair.{Pair}
use Rattle.qe_plain.specs.declared.command.PlainCell.{PlainCell}
use Rattle.qe_plain.specs.declared.command.PlainCommand.{PlainCommand}
use Rattle.qe_plain.specs.declared.command.PlainCommand.TheVariants as c
use Rattle.qe_plain.specs.declared.command.Term.{Term}
use Rattle.qe_plain.specs.declared.command.Term.TheVariants as t
use Rattle.qe_schema.specs.Resolved.{IsKeptBy, IsTerm}
use Rattle.qe_encodes.specs.Callers.{Contentions, contention_of}
use Rattle.qe_encodes.specs.Fields.{kind_at}

-- a value of a type that fields may encrypt
abbrev pub IsLeaf : Plain → Type 0
IsLeaf value = is_value_kind (kind_of value) ≡ true

-- .. where it is encrypted
abbrev pub IsLeafIn : FieldKind → Plain → Type 0
IsLeafIn k.Plain value = Unit {0}
IsLeafIn _ value = IsLeaf value

-- a value of a field
pub record CanSendValue (kind : FieldKind) (value : Plain) : Type 0 where
  pub kept : IsKeptBy value kind
  pub leaf : IsLeafIn kind value

abbrev pub CanSendCell : List Field → PlainCell → Type 0
CanSendCell fields cell = CanSendValue (kind_at fields cell.field) cell.value

abbrev pub IsLeafTerm : Term → Type 0
IsLeafTerm (t.Equal field value) = IsLeaf value
IsLeafTerm _ = Unit {0}

-- a term of a filter
pub record CanSendTerm (fields : List Field) (term : Term) : Type 0 where
  pub is : IsTerm fields term
  pub leaf : IsLeafTerm term

-- no field's contention is above its greatest
abbrev pub AreWithin : List Field → Contentions → Type 0
AreWithin fields contentions = (field : ℕ) → contention_of contentions field ≤ greatest_of (kind_at fields field)

-- .. and none above 1,000
abbrev pub AreLimited : Contentions → Type 0
AreLimited contentions = (field : ℕ) → contention_of contentions field ≤ 1000

-- the cells of a document or a set, in rising field number
pub record CanSendCells (fields : List Field) (cells : List PlainCell) : Type 0 where
  pub each : All (CanSendCell fields) cells
  pub rise : IsStrictlyIncreasing (map (λ cell. cell.field) cells)
  pub few : length cells ≤ 64

-- the terms of a filter
pub record CanSendTerms (fields : List Field) (terms : List Term) : Type 0 where
  pub each : All (CanSendTerm fields) terms
  pub few : length terms ≤ 2 ^ 31

-- the tokens that a begin sends are of encrypted fields
abbrev pub CanSendPairs : List Field → List Pair → Type 0
CanSendPairs fields pairs = All (λ pair. is_encrypted (kind_at fields pair.sent) ≡ true) pairs

abbrev pub CanSend : List Field → PlainCommand → Type 0
CanSend fields (c.Insert document) = CanSendCells fields document.cells
CanSend fields (c.Find terms ids) = CanSendTerms fields terms
CanSend fields (c.Update terms set) = CanSendTerms fields terms × CanSendCells fields set
CanSend fields (c.Delete terms) = CanSendTerms fields terms
CanSend fields (c.Begin kind pairs) = CanSendPairs fields pairs
CanSend fields _ = Unit {0}

-- a command that stores no value
abbrev pub stores_none : PlainCommand → Bool
stores_none (c.Insert document) = false
stores_none (c.Update terms set) = false
stores_none _ = true
