-- The values of a document or of a set, judged in the order of the names.
use Rattle.std.specs.Prelude.{ℕ, ◌&&◌, ◌||◌, List, [], ◌∷◌, codes, Bool, bytes_eq, Option, None, Some, Result, Ok, Err, if◌then◌else◌}
use Rattle.qe_value.specs.declared.value.Plain.{Plain}
use Rattle.qe_edges.specs.Rules.{Rules}
use Rattle.qe_field.specs.declared.field.Field.{Field}
use Rattle.qe_field.specs.declared.field.FieldKind.{FieldKind}
use Rattle.qe_field.specs.declared.field.FieldKind.TheVariants as k
use Rattle.qe_filter.specs.declared.fault.PlainFault.{PlainFault}
use Rattle.qe_filter.specs.declared.fault.PlainFault.TheVariants as f
use Rattle.qe_plain.specs.declared.command.PlainCell.{PlainCell}
use Rattle.qe_field.specs.Judgements.{bind, some_or}
use Rattle.qe_field.specs.Names.{is_reserved}
use Rattle.qe_field.specs.Values.{is_id, lies_in, number_in}
use Rattle.qe_filter.specs.Typed.{typed}
use Rattle.qe_field.specs.Lookup.{known}
use Rattle.qe_resolve.specs.Slots.{put, empty_slots, listed_from}

-- a number of the domain
abbrev pub within : List ℕ → Rules → Plain → Result Plain PlainFault
within name domain value = if lies_in domain.min domain.max (number_in value) then Ok value else Err (f.OutOfDomain name)

abbrev pub range_value : List ℕ → ℕ → Rules → Plain → Result Plain PlainFault
range_value name kind domain value = bind (some_or (f.TypeDiffers name) (typed kind value)) (within name domain)

-- the value that a field of a kind keeps
abbrev pub kept_value : List ℕ → FieldKind → Plain → Result Plain PlainFault
kept_value name k.Plain value = Ok value
kept_value name (k.Equality _ kind _ _) value = some_or (f.TypeDiffers name) (typed kind value)
kept_value name (k.Range _ kind _ _ domain) value = range_value name kind domain value

abbrev pub field_cell : List ℕ → Plain → ℕ × FieldKind → Result (Option (ℕ × Plain)) PlainFault
field_cell name value found = bind (kept_value name found.1 value) (λ v. Ok (Some (found.0, v)))

-- a name that no field may have: it is reserved, or is `_id` in a set
abbrev pub is_refused : Bool → List ℕ → Bool
is_refused in_set name = is_reserved name || (in_set && bytes_eq name (codes "_id"))

-- one name: the cell of its field, and none for `_id`
abbrev pub name_cell : Bool → List Field → List ℕ × Plain → Result (Option (ℕ × Plain)) PlainFault
name_cell in_set fields element =
    if is_refused in_set element.0 then Err (f.ReservedName element.0)
    else if bytes_eq element.0 (codes "_id") then (if is_id element.1 then Ok None else Err f.BadId)
    else bind (some_or (f.UnknownField element.0) (known fields element.0)) (field_cell element.0 element.1)

-- each name's cell is put at its field's place
abbrev pub slots_from : Bool → List Field → List (Option Plain) → List (List ℕ × Plain) → Result (List (Option Plain)) PlainFault
slots_from in_set fields slots [] = Ok slots
slots_from in_set fields slots (element ∷ elements) =
    bind (name_cell in_set fields element) (λ cell. slots_from in_set fields (put cell slots) elements)

abbrev pub cell : ℕ → Plain → PlainCell
cell field value = record { field = field; value = value }

-- the cells in rising field number
abbrev pub cells_of : Bool → List Field → List (List ℕ × Plain) → Result (List PlainCell) PlainFault
cells_of in_set fields elements = bind (slots_from in_set fields (empty_slots fields) elements) (λ slots. Ok (listed_from cell 0 slots))
