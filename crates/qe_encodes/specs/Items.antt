-- What is indexed of a value, and what is looked for by a term: items, as lists of bytes.
use Rattle.std.specs.Prelude.{ℕ, ℤ, List, [], ◌∷◌, map, Bool, false, bytes_eq, Option, None, Some}
use Rattle.std.specs.List.{list_any}
use Rattle.qe_value.specs.declared.value.Plain.{Plain}
use Rattle.qe_value.specs.Spelling.{spelled}
use Rattle.qe_edges.specs.declared.edge.Edge.{Edge}
use Rattle.qe_edges.specs.Prefixes.{edges_of, cover_of}
use Rattle.qe_edges.specs.Rules.{Rules}
use Rattle.qe_edges.specs.Texts.{text_of}
use Rattle.qe_field.specs.declared.field.Field.{Field}
use Rattle.qe_field.specs.declared.field.FieldKind.{FieldKind}
use Rattle.qe_field.specs.declared.field.FieldKind.TheVariants as k
use Rattle.qe_field.specs.Values.{lies_in, number_in}
use Rattle.qe_plain.specs.Collection.{same_value}
use Rattle.qe_plain.specs.declared.command.Term.{Term}
use Rattle.qe_plain.specs.declared.command.Term.TheVariants as t
use Rattle.qe_encodes.specs.Fields.{kind_at}

-- the bytes of a value, after its name in a document
abbrev pub bytes_of : Plain → List ℕ
bytes_of value = (spelled value).bytes

abbrev pub edges_for : Rules → Option ℤ → List Edge
edges_for domain None = []
edges_for domain (Some number) = edges_of domain number

-- the edges of a value of a range field, shortest first
abbrev pub value_edges : Rules → Plain → List Edge
value_edges domain value = edges_for domain (number_in value)

-- of an equality field the value's bytes, of a range field the texts of its edges
abbrev pub value_items : FieldKind → Plain → List (List ℕ)
value_items k.Plain value = []
value_items (k.Equality _ _ _ _) value = bytes_of value ∷ []
value_items (k.Range _ _ _ _ domain) value = map text_of (value_edges domain value)

-- the cover of an interval of a range field, in the order of its lowest values
abbrev pub cover_in : FieldKind → ℤ → ℤ → List Edge
cover_in (k.Range _ _ _ _ domain) lo hi = cover_of domain lo hi
cover_in kind lo hi = []

-- the value's bytes, or the texts of the interval's cover; an id has none
abbrev pub term_items : List Field → Term → List (List ℕ)
term_items fields (t.Id value) = []
term_items fields (t.Equal field value) = bytes_of value ∷ []
term_items fields (t.Between field lo hi) = map text_of (cover_in (kind_at fields field) lo hi)

-- whether items have one in common with others
abbrev pub meet : List (List ℕ) → List (List ℕ) → Bool
meet items wanted = list_any (λ item. list_any (bytes_eq item) wanted) items

-- whether a term holds of a value in its field, to a user
abbrev pub says_of : Term → Plain → Bool
says_of (t.Id wanted) value = false
says_of (t.Equal field wanted) value = same_value value wanted
says_of (t.Between field lo hi) value = lies_in lo hi (number_in value)
