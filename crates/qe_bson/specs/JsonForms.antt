-- What an object of a form stands for, where so many levels are left for objects in it, and what a JSON number stands for.
use Rattle.std.specs.Prelude.{ℕ, ℤ, ◌==◌, ◌&&◌, Option, None, Some, is_some, Result, Ok, Err, if◌then◌else◌}
use Rattle.serde_json.specs.Data.{Num, Data}
use Rattle.serde_json.specs.Find.{as_i64, as_object}
use Rattle.qe_value.specs.declared.value.Plain.{Plain}
use Rattle.qe_value.specs.declared.value.Plain.TheVariants as p
use Rattle.qe_json_forms.specs.declared.forms.Form.{Form}
use Rattle.qe_json_forms.specs.Forms.{fits, value_in}
use Rattle.qe_bson.specs.declared.extended_json.fault.JsonFault.{JsonFault}
use Rattle.qe_bson.specs.declared.extended_json.fault.JsonFault.TheVariants.{BadNumber, BadForm, TooDeep}

-- the value of a form where so many levels are left for objects in it
abbrev pub form_judged : ℕ → Data → Option Plain → Result Plain JsonFault
form_judged room d None = Err BadForm
form_judged room d (Some v) = if room == 0 && is_some (as_object d) then Err TooDeep else Ok v

abbrev pub form_value : ℕ → Form × Data → Result Plain JsonFault
form_value room f = form_judged room f.1 (value_in f.0 f.1)

-- a JSON number is an int32 where it fits one, else an int64
abbrev pub number_of_int : Option ℤ → Result Plain JsonFault
number_of_int None = Err BadNumber
number_of_int (Some z) = Ok (if fits 31 z then p.Int32 z else p.Int64 z)

abbrev pub number_value : Num → Result Plain JsonFault
number_value n = number_of_int (as_i64 n)
