-- The header's `fields`: the field objects without their keys, and the keys.
use Rattle.std.specs.Prelude.{ℕ, List, [], ◌∷◌, codes, Bool, not, bytes_eq, filter, Option, option_and_then, Result, Ok, if◌then◌else◌}
use Rattle.std.specs.List.{list_all}
use Rattle.std.specs.Result.{result_ok}
use Rattle.hex.specs.Hex.{decode_sized}
use Rattle.serde_json.specs.Data.{Data, Members}
use Rattle.qe_value.specs.declared.value.Plain.{Plain}
use Rattle.qe_value.specs.declared.value.Plain.TheVariants as p
use Rattle.qe_value.specs.Names.{value_named}
use Rattle.qe_value.specs.Views.{fields_of, items_of}
use Rattle.qe_bson.specs.JsonReading.{value_of_json}
use Rattle.qe_schema.specs.Judgements.{bind, some_or, gather}
use Rattle.qe_schema.specs.Values.{text_in}
use Rattle.qe_raw.specs.declared.fault.ScriptKind.{ScriptKind}
use Rattle.qe_raw.specs.declared.fault.ScriptKind.TheVariants as k
use Rattle.qe_raw.specs.Values.{Fields, needed}

abbrev pub bad_fields : ScriptKind
bad_fields = k.BadValue (codes "fields")

abbrev pub is_other : List ℕ → List ℕ × Plain → Bool
is_other name element = not (bytes_eq element.0 name)

-- a field object has no other name than `path`
abbrev pub is_bare : Fields → Bool
is_bare elements = list_all (λ element. bytes_eq element.0 (codes "path")) elements

-- 192 hex digits
abbrev pub key_from : List ℕ → Option (List ℕ)
key_from text = result_ok (decode_sized text 96)

abbrev pub key_text : Option Plain → Option (List ℕ)
key_text value = option_and_then key_from (option_and_then text_in value)

-- the key of a field object; one with another name besides `path` has one
abbrev pub key_in : Fields → Result (List (List ℕ)) ScriptKind
key_in elements = if is_bare elements then Ok []
    else bind (some_or bad_fields (key_text (value_named (codes "key") elements))) (λ key. Ok (key ∷ []))

abbrev pub key_of : Plain → Result (List (List ℕ)) ScriptKind
key_of value = bind (some_or bad_fields (fields_of value)) key_in

-- a field object without its key
unfoldable pub without_key : Fields → Fields
without_key elements = filter (is_other (codes "key")) elements

abbrev pub object_of : Plain → Result (List Plain) ScriptKind
object_of value = bind (some_or bad_fields (fields_of value)) (λ elements. Ok (p.Doc (without_key elements) ∷ []))

-- the items of the array that Extended JSON gives of a value, if it gives one
abbrev pub items_at : Data → Option (List Plain)
items_at d = option_and_then items_of (result_ok (value_of_json d))

-- the document with the one name `fields`
abbrev pub document_with : List Plain → Fields
document_with objects = (codes "fields", p.Array objects) ∷ []

-- the schema's document, and the keys in the order of the fields that have one
abbrev pub fields_from : List Plain → Result (Fields × List (List ℕ)) ScriptKind
fields_from values =
    bind (gather object_of values) (λ objects.
    bind (gather key_of values) (λ keys.
    Ok (document_with objects, keys)))

abbrev pub fields_in : Members → Result (Fields × List (List ℕ)) ScriptKind
fields_in ms = bind (needed (codes "fields") ms) (λ d. bind (some_or bad_fields (items_at d)) fields_from)
