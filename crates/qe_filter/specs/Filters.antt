-- The terms of a filter: those of its names in order, and of `$and` those of its filters in its place.
use Rattle.std.specs.Prelude.{ℕ, ◌&&◌, ◌||◌, ℤ, is_none, List, [], ◌∷◌, length, codes, Bool, false, bytes_eq, nat_lt, Option, None, Some, option_map, Result, Ok, Err, if◌then◌else◌}
use Rattle.std.specs.Option.{option_copied}
use Rattle.std.specs.List.{list_all}
use Rattle.qe_value.specs.declared.value.Plain.{Plain}
use Rattle.qe_value.specs.Names.{value_named}
use Rattle.qe_edges.specs.Rules.{Rules}
use Rattle.qe_field.specs.declared.field.Field.{Field}
use Rattle.qe_field.specs.declared.field.FieldKind.{FieldKind}
use Rattle.qe_field.specs.declared.field.FieldKind.TheVariants as k
use Rattle.qe_filter.specs.declared.fault.PlainFault.{PlainFault}
use Rattle.qe_filter.specs.declared.fault.PlainFault.TheVariants as f
use Rattle.qe_plain.specs.declared.command.Term.{Term}
use Rattle.qe_plain.specs.declared.command.Term.TheVariants as t
use Rattle.qe_filter.specs.declared.filters.Ends.{Ends}
use Rattle.qe_field.specs.Judgements.{bind, some_or, gather}
use Rattle.qe_field.specs.Names.{is_reserved}
use Rattle.qe_value.specs.Views.{plain, fields_of, items_of}
use Rattle.qe_field.specs.Values.{is_id}
use Rattle.qe_filter.specs.Typed.{typed, number_of}
use Rattle.qe_field.specs.Lookup.{known}

abbrev pub ends_view : Ends → Option Plain × Option Plain
ends_view ends = (option_map plain (option_copied ends.low), option_map plain (option_copied ends.high))

abbrev pub is_end : List ℕ × Plain → Bool
is_end element = bytes_eq element.0 (codes "$gte") || bytes_eq element.0 (codes "$lte")

-- the ends of an interval: a document with the names `$gte`, `$lte` or both, and no other
abbrev pub interval_of : List (List ℕ × Plain) → Option (Option Plain × Option Plain)
interval_of elements =
    if nat_lt 0 (length elements) && list_all is_end elements
    then Some (value_named (codes "$gte") elements, value_named (codes "$lte") elements) else None

-- an end that is missing is the domain's; one that is given stands as it is
abbrev pub end_of : List ℕ → ℕ → ℤ → Option Plain → Result ℤ PlainFault
end_of name kind missing None = Ok missing
end_of name kind missing (Some value) = some_or (f.TypeDiffers name) (number_of kind value)

abbrev pub between : List ℕ → ℕ → ℕ → Rules → Option Plain × Option Plain → Result Term PlainFault
between name field kind domain ends =
    bind (end_of name kind domain.min ends.0) (λ low. bind (end_of name kind domain.max ends.1) (λ high. Ok (t.Between field low high)))

-- a term of an equality field, by the elements of its value where that is a document
abbrev pub equal_term : List ℕ → ℕ → ℕ → Plain → Option (List (List ℕ × Plain)) → Result Term PlainFault
equal_term name field kind value None = bind (some_or (f.TypeDiffers name) (typed kind value)) (λ v. Ok (t.Equal field v))
equal_term name field kind value (Some elements) = Err (if is_none (interval_of elements) then f.TypeDiffers name else f.NotIndexed name)

-- a term of a range field; a value is both ends
abbrev pub range_term : List ℕ → ℕ → ℕ → Rules → Plain → Option (List (List ℕ × Plain)) → Result Term PlainFault
range_term name field kind domain value None = bind (some_or (f.TypeDiffers name) (number_of kind value)) (λ z. Ok (t.Between field z z))
range_term name field kind domain value (Some elements) = bind (some_or (f.BadFilter name) (interval_of elements)) (between name field kind domain)

abbrev pub field_term : List ℕ → Plain → ℕ × FieldKind → Result Term PlainFault
field_term name value (field, k.Plain) = Err (f.NotIndexed name)
field_term name value (field, k.Equality _ kind _ _) = equal_term name field kind value (fields_of value)
field_term name value (field, k.Range _ kind _ _ domain) = range_term name field kind domain value (fields_of value)

-- one name of a filter, other than `$and`
abbrev pub term_of : List Field → List ℕ → Plain → Result Term PlainFault
term_of fields name value =
    if is_reserved name then Err (f.ReservedName name)
    else if bytes_eq name (codes "_id") then (if is_id value then Ok (t.Id value) else Err f.BadId)
    else bind (some_or (f.UnknownField name) (known fields name)) (field_term name value)

unfoldable pub one_term : List Field → List ℕ × Plain → Result (List Term) PlainFault
one_term fields element = bind (term_of fields element.0 element.1) (λ term. Ok (term ∷ []))

-- a filter that may stand under `$and`: a document without that name
abbrev pub is_flat_in : Option (List (List ℕ × Plain)) → Bool
is_flat_in None = false
is_flat_in (Some elements) = is_none (value_named (codes "$and") elements)

abbrev pub is_flat : Plain → Bool
is_flat value = is_flat_in (fields_of value)

abbrev pub flat_terms : List Field → List (List ℕ × Plain) → Result (List Term) PlainFault
flat_terms fields elements = gather (one_term fields) elements

abbrev pub member_terms : List Field → Plain → Result (List Term) PlainFault
member_terms fields member = bind (some_or (f.BadFilter (codes "$and")) (fields_of member)) (flat_terms fields)

abbrev pub all_terms : List Field → List Plain → Result (List Term) PlainFault
all_terms fields members = if list_all is_flat members then gather (member_terms fields) members else Err (f.BadFilter (codes "$and"))

-- `$and`: its whole form is judged before its members' names
abbrev pub and_terms : List Field → Plain → Result (List Term) PlainFault
and_terms fields value = bind (some_or (f.BadFilter (codes "$and")) (items_of value)) (all_terms fields)

unfoldable pub name_terms : List Field → List ℕ × Plain → Result (List Term) PlainFault
name_terms fields element = if bytes_eq element.0 (codes "$and") then and_terms fields element.1 else one_term fields element

abbrev pub filter_terms : List Field → List (List ℕ × Plain) → Result (List Term) PlainFault
filter_terms fields elements = gather (name_terms fields) elements
