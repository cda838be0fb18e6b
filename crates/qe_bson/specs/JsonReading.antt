-- The value of JSON data, or the first fault that is met: at an object or an array TooDeep, then BadForm, then its
-- parts in order.
use Rattle.std.specs.Prelude.{ℕ, zero, suc, List, [], ◌∷◌, Option, None, Some, Result, Ok, Err}
use Rattle.serde_json.specs.Data.{Data, null, boolean, number, string, array, object, Items, no_items, item, Members, no_members, member}
use Rattle.qe_value.specs.declared.value.Plain.{Plain}
use Rattle.qe_value.specs.declared.value.Plain.TheVariants as p
use Rattle.qe_bson.specs.declared.extended_json.fault.JsonFault.{JsonFault}
use Rattle.qe_bson.specs.declared.extended_json.fault.JsonFault.TheVariants.{TooDeep}
use Rattle.qe_json_forms.specs.declared.forms.Form.{Form}
use Rattle.qe_document.specs.Limits.{most_levels}
use Rattle.qe_json_forms.specs.Forms.{form_of}
use Rattle.qe_bson.specs.JsonForms.{form_value, number_value}

-- the second step, where the first gave a value
abbrev pub then : {A B : Type 0} → (A → Result B JsonFault) → Result A JsonFault → Result B JsonFault
then next (Ok x) = next x
then next (Err fault) = Err fault

abbrev pub in_array : Result (List Plain) JsonFault → Result Plain JsonFault
in_array items = then (λ vs. Ok (p.Array vs)) items

abbrev pub in_document : Result (List (List ℕ × Plain)) JsonFault → Result Plain JsonFault
in_document fields = then (λ fs. Ok (p.Doc fs)) fields

-- an object is a form, or a document
abbrev pub form_or : ℕ → Option (Form × Data) → Result Plain JsonFault → Result Plain JsonFault
form_or room None document = document
form_or room (Some f) document = form_value room f

-- where so many levels are left for objects and arrays; the names of an object stand in rising order
unfoldable mutual
  pub value_at : ℕ → Data → Result Plain JsonFault
  value_at room null = Ok p.Null
  value_at room (boolean b) = Ok (p.Bool b)
  value_at room (number n) = number_value n
  value_at room (string text) = Ok (p.Str text)
  value_at zero (array ds) = Err TooDeep
  value_at (suc room) (array ds) = in_array (items_at room ds)
  value_at zero (object ms) = Err TooDeep
  value_at (suc room) (object ms) = form_or room (form_of ms) (in_document (fields_at room ms))

  pub items_at : ℕ → Items → Result (List Plain) JsonFault
  items_at room no_items = Ok []
  items_at room (item d ds) = then (λ v. then (λ vs. Ok (v ∷ vs)) (items_at room ds)) (value_at room d)

  pub fields_at : ℕ → Members → Result (List (List ℕ × Plain)) JsonFault
  fields_at room no_members = Ok []
  fields_at room (member name d ms) = then (λ v. then (λ fs. Ok ((name, v) ∷ fs)) (fields_at room ms)) (value_at room d)

abbrev pub array_value : ℕ → Items → Result Plain JsonFault
array_value room ds = value_at room (array ds)

abbrev pub object_value : ℕ → Members → Result Plain JsonFault
object_value room ms = value_at room (object ms)

-- the value of JSON that is not too deep
abbrev pub value_of_json : Data → Result Plain JsonFault
value_of_json d = value_at most_levels d
