-- The schema that a document is, or its first fault. A field is judged behind the earlier ones.
use Rattle.std.specs.Prelude.{ℕ, ◌+◌, ◌-◌, ◌^◌, ◌==◌, ◌||◌, ◌&&◌, ℤ, pos, negsuc, int_le, List, [], ◌∷◌, ◌++◌, length, codes, Bool, true, false, not, bytes_eq, nat_lt, nat_le, Option, None, Some, option_map, unwrap_or, Result, Ok, Err, if◌then◌else◌}
use Rattle.uuid.specs.Text.{parsed}
use Rattle.qe_value.specs.declared.value.Plain.{Plain}
use Rattle.qe_value.specs.Views.{items_of}
use Rattle.qe_value.specs.Names.{value_named}
use Rattle.qe_edges.specs.declared.domain.DomainFault.{DomainFault}
use Rattle.qe_edges.specs.declared.domain.DomainFault.TheVariants as d
use Rattle.qe_edges.specs.Rules as edges
use Rattle.qe_field.specs.declared.field.Field.{Field}
use Rattle.qe_field.specs.declared.field.FieldKind.{FieldKind}
use Rattle.qe_field.specs.declared.field.FieldKind.TheVariants as k
use Rattle.qe_field.specs.declared.fault.SchemaFault.{SchemaFault}
use Rattle.qe_field.specs.declared.fault.SchemaFault.TheVariants as s
use Rattle.qe_field.specs.declared.shape.Rules.{Rules}
use Rattle.qe_field.specs.Judgements.{bind, some_or, unless, refuse_as}
use Rattle.qe_field.specs.Lookup.{number_with}
use Rattle.qe_field.specs.Names.{is_path}
use Rattle.qe_field.specs.Shape.{◌>>=◌, FieldForm, EncryptedForm, shape_of}

-- the type bytes of equality fields (bsonspec.org, BSON 1.1)
abbrev pub equality_kind : List ℕ → Option ℕ
equality_kind name =
    if bytes_eq name (codes "int") then Some 0x10
    else if bytes_eq name (codes "long") then Some 0x12
    else if bytes_eq name (codes "string") then Some 0x02
    else if bytes_eq name (codes "bool") then Some 0x08
    else if bytes_eq name (codes "objectId") then Some 0x07
    else if bytes_eq name (codes "date") then Some 0x09
    else if bytes_eq name (codes "binData") then Some 0x05
    else None

-- .. and of range fields
abbrev pub range_kind : List ℕ → Option ℕ
range_kind name = if bytes_eq name (codes "int") then Some 0x10 else if bytes_eq name (codes "long") then Some 0x12 else None

abbrev pub value_kind_of : Option Rules → List ℕ → Option ℕ
value_kind_of None name = equality_kind name
value_kind_of (Some rules) name = range_kind name

-- whether a field has a key id
abbrev pub has_key : List ℕ → FieldKind → Bool
has_key id k.Plain = false
has_key id (k.Equality key_id _ _ _) = bytes_eq id key_id
has_key id (k.Range key_id _ _ _ _) = bytes_eq id key_id

-- the number of the first field with a key id
abbrev pub key_from : ℕ → List ℕ → List Field → Option ℕ
key_from i id [] = None
key_from i id (field ∷ fields) = if has_key id field.kind then Some i else key_from (i + 1) id fields

-- the id that a text has (RFC 9562, section 4, in the forms that the kit's uuid reads): 32 hex digits, or the form with
-- hyphens, alone, in braces or behind `urn:uuid:` in either case
abbrev pub key_id_of : List ℕ → Option (List ℕ)
key_id_of text = parsed text

abbrev pub same_path : ℕ → ℕ → SchemaFault
same_path second first = s.DuplicateField first second

abbrev pub same_key : ℕ → ℕ → SchemaFault
same_key second first = s.DuplicateKeyId first second

-- a number from 0 to 1,000
abbrev pub limited : ℤ → Option ℕ
limited (pos n) = if nat_le n 1000 then Some n else None
limited (negsuc n) = None

abbrev pub ordered : ℕ → ℕ → Option (ℕ × ℕ)
ordered contention greatest = if nat_le contention greatest then Some (contention, greatest) else None

abbrev pub then_limited : ℕ → Option ℕ → Option (ℕ × ℕ)
then_limited contention None = None
then_limited contention (Some greatest) = ordered contention greatest

abbrev pub limits_of : Option ℕ → ℤ → Option (ℕ × ℕ)
limits_of None greatest = None
limits_of (Some contention) greatest = then_limited contention (limited greatest)

-- the contention, 8 where none is given, and the greatest one, which is the contention where none is given
abbrev pub contentions_of : EncryptedForm → Option (ℕ × ℕ)
contentions_of form = let contention = unwrap_or form.contention (pos 8) in limits_of (limited contention) (unwrap_or form.greatest contention)

-- a number that no u32 has counts as the greatest u32
abbrev pub as_u32 : ℤ → ℕ
as_u32 (pos n) = if nat_lt n (2 ^ 32) then n else 2 ^ 32 - 1
as_u32 (negsuc n) = 2 ^ 32 - 1

abbrev pub is_empty : List ℕ → Bool
is_empty [] = true
is_empty (n ∷ ns) = false

-- the rules store no prefix of at most 10 digits, or the trim factor leaves not even the whole string
unfoldable pub has_trim_fault : edges.Rules → Bool
has_trim_fault rules = nat_le (edges.bits_of rules) rules.trim || is_empty (edges.stored_below rules 11)

-- the domain of these rules, or the first fault
abbrev pub domain_of : ℤ → ℤ → ℕ → Option ℕ → Result edges.Rules DomainFault
domain_of low high sparsity trim =
    if int_le high low then Err d.MinNotBelowMax
    else if not (nat_le 1 sparsity && nat_le sparsity 8) then Err d.SparsityRange
    else if has_trim_fault (edges.rules_of low high sparsity trim) then Err d.TrimRange
    else Ok (edges.rules_of low high sparsity trim)

-- the sparsity is 2 where none is given
abbrev pub given_domain : Rules → Result edges.Rules DomainFault
given_domain rules = domain_of rules.min rules.max (unwrap_or (option_map as_u32 rules.sparsity) 2) (option_map as_u32 rules.trim)

abbrev pub field_domain : ℕ → Rules → Result edges.Rules SchemaFault
field_domain i rules = refuse_as (s.BadDomain i) (given_domain rules)

abbrev pub with_rules : ℕ → ℕ → List ℕ → ℕ × ℕ → Option Rules → Result FieldKind SchemaFault
with_rules i kind id limits None = Ok (k.Equality id kind limits.0 limits.1)
with_rules i kind id limits (Some rules) = bind (field_domain i rules) (λ domain. Ok (k.Range id kind limits.0 limits.1 domain))

-- how the field of a number is kept
abbrev pub encrypted_kind : List Field → ℕ → EncryptedForm → Result FieldKind SchemaFault
encrypted_kind earlier i form =
    bind (some_or (s.BadType i) (value_kind_of form.rules form.value_type)) (λ kind.
    bind (some_or (s.BadKeyId i) (key_id_of form.key_id)) (λ id.
    unless (option_map (same_key i) (key_from 0 id earlier)) (
    bind (some_or (s.BadContention i) (contentions_of form)) (λ limits.
    with_rules i kind id limits form.rules))))

abbrev pub field_kind : List Field → ℕ → Option EncryptedForm → Result FieldKind SchemaFault
field_kind earlier i None = Ok k.Plain
field_kind earlier i (Some form) = encrypted_kind earlier i form

-- the field of a number, behind the earlier ones
abbrev pub named_field : List Field → ℕ → FieldForm → Result Field SchemaFault
named_field earlier i form =
    if is_path form.path then
    unless (option_map (same_path i) (number_with earlier form.path)) (
    bind (field_kind earlier i form.encrypted) (λ kind. Ok (record { path = form.path; kind = kind })))
    else Err (s.BadPath i)

abbrev pub field_of : List Field → ℕ → Plain → Result Field SchemaFault
field_of earlier i value = bind (some_or (s.BadForm i) (shape_of value)) (named_field earlier i)

-- the fields of these values, from a number on, behind the earlier ones
abbrev pub fields_from : ℕ → List Field → List Plain → Result (List Field) SchemaFault
fields_from i earlier [] = Ok earlier
fields_from i earlier (value ∷ values) = bind (field_of earlier i value) (λ field. fields_from (i + 1) (earlier ++ field ∷ []) values)

-- the values of a document that is the one name `fields` with an array
abbrev pub values_in : List (List ℕ × Plain) → Option (List Plain)
values_in elements = if length elements == 1 then value_named (codes "fields") elements >>= items_of else None

abbrev pub few_fields : List Plain → Result (List Field) SchemaFault
few_fields values = if nat_le (length values) 64 then fields_from 0 [] values else Err (s.TooManyFields (length values))

-- the fields of a schema
abbrev pub schema_of : List (List ℕ × Plain) → Result (List Field) SchemaFault
schema_of elements = bind (some_or s.NotFields (values_in elements)) few_fields
