-- What is printed of a value is read as the value again, by induction over values.
use Rattle.std.proofs.Common.{◌≡◌, ℕ, ◌≤◌, map, length, Bool, true, nat_eq, Result, Ok, refl, sym, ap, ◌∙◌, subst}
use Rattle.std.proofs.lemmas.Bool.{ltb-true, eqb-true}
use Rattle.std.specs.Prelude.{nat_lt}
use Rattle.serde_json.specs.Data.{Data, null, boolean, number, string}
use Rattle.serde_json.specs.Find.{of_integer}
use Rattle.qe_value.specs.declared.value.Plain.{Plain, roll-Plain, map-Plain}
use Rattle.qe_value.specs.declared.value.Plain.TheFolds.{ind-Plain, fold-roll-Plain}
use Rattle.qe_value.specs.declared.value.Plain.TheOpen.{Plain-F}
use Rattle.qe_value.specs.declared.value.Plain.TheVariants as p
use Rattle.qe_bson.specs.declared.extended_json.fault.JsonFault.{JsonFault}
use Rattle.qe_bson.specs.JsonReading.{value_at}
use Rattle.qe_base.specs.Bytes.{are_bytes}
use Rattle.qe_bson.specs.JsonRound.{typed, typed_step, ordered, ordered_step, levels, levels_step}
use Rattle.qe_bson.specs.JsonWriting.{long, date, object_id, binary, json_of, json_step}
use Rattle.qe_bson.proofs.JsonAgainLemmas.{ReadsBack, Known, bare}
use Rattle.qe_json_forms.proofs.FormLemmas.{both}
use Rattle.qe_bson.proofs.JsonLeafLemmas.{int32-again, long-again, date-again, object_id-again, binary-again}
use Rattle.qe_bson.proofs.JsonRoundLemmas.{doc_again, array_again}

-- the data is the one that was made
from_made : (room : ℕ) (d made : Data) (v w : Plain) → (let given : Result Data JsonFault = Ok made in given ≡ Ok d) → value_at room made ≡ Ok v → w ≡ v → value_at room d ≡ Ok w
from_made room d made v w e read same = let here : made ≡ d = cc in subst (λ x. value_at room x ≡ Ok w) here (read ∙ ap Ok (sym same))

abbrev plains : Plain-F Known → Plain-F Plain
plains y = map-Plain Known Plain (λ k. k.0) y

step : (y : Plain-F Known) (room : ℕ) (d : Data) → json_step (map-Plain Plain (Result Data JsonFault) json_of (plains y)) ≡ Ok d → typed_step (map-Plain Plain Bool typed (plains y)) ≡ true
    → ordered_step (map-Plain Plain Bool ordered (plains y)) ≡ true → levels_step (map-Plain Plain ℕ levels (plains y)) ≤ room → value_at room d ≡ Ok (roll-Plain (plains y))
unfolding value_at
step (Plain-F.Double bytes) room d e t o le = cc
step (Plain-F.Str text) room d e t o le = from_made room d (string text) (p.Str text) _ e refl (p.rolls-Str text)
step (Plain-F.Doc fs) room d e t o le = doc_again fs room d e t o le ∙ ap Ok (sym (p.rolls-Doc (map bare fs)))
step (Plain-F.Array vs) room d e t o le = array_again vs room d e t o le ∙ ap Ok (sym (p.rolls-Array (map (λ k. k.0) vs)))
step (Plain-F.Binary subtype bytes) room d e t o le =
    let parts = both (nat_lt subtype 256) (are_bytes bytes) t in
    from_made room d (binary subtype bytes) (p.Binary subtype bytes) _ e (binary-again room subtype bytes (ltb-true subtype 256 parts.0) parts.1 le) (p.rolls-Binary subtype bytes)
step (Plain-F.ObjectId id) room d e t o le =
    let parts = both (nat_eq (length id) 12) (are_bytes id) t in
    from_made room d (object_id id) (p.ObjectId id) _ e (object_id-again room id (eqb-true (length id) 12 parts.0) parts.1 le) (p.rolls-ObjectId id)
step (Plain-F.Bool b) room d e t o le = from_made room d (boolean b) (p.Bool b) _ e refl (p.rolls-Bool b)
step (Plain-F.Date z) room d e t o le = from_made room d (date z) (p.Date z) _ e (date-again room z t le) (p.rolls-Date z)
step Plain-F.Null room d e t o le = from_made room d null p.Null _ e refl p.rolls-Null
step (Plain-F.Int32 z) room d e t o le = from_made room d (number (of_integer z)) (p.Int32 z) _ e (int32-again room z t) (p.rolls-Int32 z)
step (Plain-F.Timestamp n) room d e t o le = cc
step (Plain-F.Int64 z) room d e t o le = from_made room d (long z) (p.Int64 z) _ e (long-again room z t le) (p.rolls-Int64 z)
step (Plain-F.Decimal bytes) room d e t o le = cc

pub reads_back : (v : Plain) → ReadsBack v
unfolding json_of typed ordered levels
reads_back = ind-Plain ReadsBack (λ x y is. λ room d e t o le.
    let J = λ (z : Plain-F Plain). json_step (map-Plain Plain (Result Data JsonFault) json_of z) in
    let T = λ (z : Plain-F Plain). typed_step (map-Plain Plain Bool typed z) in
    let O = λ (z : Plain-F Plain). ordered_step (map-Plain Plain Bool ordered z) in
    let L = λ (z : Plain-F Plain). levels_step (map-Plain Plain ℕ levels z) in
    let deep = subst (λ n. n ≤ room) (fold-roll-Plain ℕ levels_step x ∙ ap L (sym is)) le in
    step y room d (ap J is ∙ sym (fold-roll-Plain (Result Data JsonFault) json_step x) ∙ e)
    (ap T is ∙ sym (fold-roll-Plain Bool typed_step x) ∙ t)
    (ap O is ∙ sym (fold-roll-Plain Bool ordered_step x) ∙ o)
    deep ∙ ap (λ z. Ok (roll-Plain z)) is)
