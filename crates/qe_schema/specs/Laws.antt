-- What the laws say.
use Rattle.std.specs.Prelude.{◌≡◌, ◌≢◌, ◌↔◌, ℕ, List, All, Bool, None, Ok}
use Rattle.qe_value.specs.declared.value.Plain.{Plain}
use Rattle.qe_value.specs.Views.{fields_of}
use Rattle.qe_edges.specs.Rules.{Rules}
use Rattle.qe_field.specs.declared.field.Field.{Field}
use Rattle.qe_field.specs.declared.field.FieldKind.TheVariants as k
use Rattle.qe_field.specs.Lookup.{known}
use Rattle.qe_field.specs.Reading.{schema_of}
use Rattle.qe_plain.specs.declared.command.PlainCell.{PlainCell}
use Rattle.qe_plain.specs.declared.command.PlainCommand.{PlainCommand}
use Rattle.qe_plain.specs.declared.command.RawCommand.{RawCommand}
use Rattle.qe_plain.specs.declared.command.Term.{Term}
use Rattle.qe_filter.specs.Filters.{field_term, filter_terms}
use Rattle.qe_resolve.specs.Cells.{cells_of}
use Rattle.qe_resolve.specs.Resolve.{resolved}
use Rattle.qe_schema.specs.Resolved.{AreCells, IsInterval, IsResolved, IsTerm, ends_in}
use Rattle.qe_field.specs.Schema.{IsSchema}

-- what is read is a schema
abbrev pub IsReadAsSchema : Type 0
IsReadAsSchema = (elements : List (List ℕ × Plain)) (fields : List Field) → schema_of elements ≡ Ok fields → IsSchema fields

-- no field is found exactly where none has the path
abbrev pub IsUnknownWhereNone : Type 0
IsUnknownWhereNone = (fields : List Field) (path : List ℕ) → (known fields path ≡ None) ↔ All (λ field. field.path ≢ path) fields

abbrev pub CellsAreTheFields : Type 0
CellsAreTheFields = (in_set : Bool) (fields : List Field) (elements : List (List ℕ × Plain)) (cells : List PlainCell)
    → cells_of in_set fields elements ≡ Ok cells → AreCells fields cells

abbrev pub TermsAreTheFields : Type 0
TermsAreTheFields = (fields : List Field) (elements : List (List ℕ × Plain)) (terms : List Term)
    → filter_terms fields elements ≡ Ok terms → All (IsTerm fields) terms

-- the term of a range field is the interval of the value's ends
abbrev pub EndsAreTheGiven : Type 0
EndsAreTheGiven = (name id : List ℕ) (value : Plain) (i kind contention greatest : ℕ) (domain : Rules) (term : Term)
    → field_term name value (i, k.Range id kind contention greatest domain) ≡ Ok term
    → IsInterval i kind domain (ends_in value (fields_of value)) term

-- a resolved command holds what the fields allow
abbrev pub HoldsWhatIsAllowed : Type 0
HoldsWhatIsAllowed = (fields : List Field) (raw : RawCommand) (command : PlainCommand) → resolved fields raw ≡ Ok command → IsResolved fields command
