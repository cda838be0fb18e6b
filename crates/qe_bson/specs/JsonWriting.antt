-- The JSON data of a value. Doubles, decimals and timestamps have none.
use Rattle.std.specs.Prelude.{ℕ, Bool, true, false, List, [], ◌∷◌, map, Result, Ok, Err}
use Rattle.serde_json.specs.Data.{Data, null, boolean, number, string, array, object, Members, no_members, put}
use Rattle.serde_json.specs.Find.{of_integer}
use Rattle.serde_json.specs.View.{items_of}
use Rattle.qe_value.specs.declared.value.Plain.{Plain, fold-Plain}
use Rattle.qe_value.specs.declared.value.Plain.TheOpen.{Plain-F}
use Rattle.qe_value.specs.Measures.{any_true}
use Rattle.qe_bson.specs.declared.extended_json.fault.JsonFault.{JsonFault}
use Rattle.qe_bson.specs.declared.extended_json.fault.JsonFault.TheVariants.{Unprintable}
pub use Rattle.qe_json_forms.specs.Writing.{only, long, date, object_id, binary_content, binary}
use Rattle.qe_bson.specs.JsonReading.{then}

-- all items, where each has one
abbrev pub all_of : List (Result Data JsonFault) → Result (List Data) JsonFault
all_of [] = Ok []
all_of (v ∷ vs) = then (λ d. then (λ ds. Ok (d ∷ ds)) (all_of vs)) v

-- members with these before them; names stand in rising byte order
abbrev pub members_from : Members → List (List ℕ × Result Data JsonFault) → Result Members JsonFault
members_from before [] = Ok before
members_from before (f ∷ fs) = then (λ d. members_from (put f.0 d before) fs) f.1

abbrev pub array_data : List Data → Result Data JsonFault
array_data ds = Ok (array (items_of ds))

abbrev pub object_data : Members → Result Data JsonFault
object_data ms = Ok (object ms)

abbrev pub json_array : List (Result Data JsonFault) → Result Data JsonFault
json_array vs = then array_data (all_of vs)

abbrev pub json_object : List (List ℕ × Result Data JsonFault) → Result Data JsonFault
json_object fs = then object_data (members_from no_members fs)

-- a value, with the JSON of what it holds
abbrev pub json_step : Plain-F (Result Data JsonFault) → Result Data JsonFault
json_step (Plain-F.Double bytes) = Err Unprintable
json_step (Plain-F.Str text) = Ok (string text)
json_step (Plain-F.Doc fs) = json_object fs
json_step (Plain-F.Array vs) = json_array vs
json_step (Plain-F.Binary subtype bytes) = Ok (binary subtype bytes)
json_step (Plain-F.ObjectId id) = Ok (object_id id)
json_step (Plain-F.Bool b) = Ok (boolean b)
json_step (Plain-F.Date millis) = Ok (date millis)
json_step Plain-F.Null = Ok null
json_step (Plain-F.Int32 z) = Ok (number (of_integer z))
json_step (Plain-F.Timestamp n) = Err Unprintable
json_step (Plain-F.Int64 z) = Ok (long z)
json_step (Plain-F.Decimal bytes) = Err Unprintable

unfoldable pub json_of : Plain → Result Data JsonFault
json_of = fold-Plain (Result Data JsonFault) json_step

abbrev pub json_field : List ℕ × Plain → List ℕ × Result Data JsonFault
json_field f = (f.0, json_of f.1)

-- whether a double, a decimal or a timestamp stands in the value
abbrev pub formless_step : Plain-F Bool → Bool
formless_step (Plain-F.Double bytes) = true
formless_step (Plain-F.Decimal bytes) = true
formless_step (Plain-F.Timestamp n) = true
formless_step (Plain-F.Doc fs) = any_true (map (λ f. f.1) fs)
formless_step (Plain-F.Array bs) = any_true bs
formless_step _ = false

unfoldable pub formless : Plain → Bool
formless = fold-Plain Bool formless_step
