-- No float stands in what is written.
use Rattle.std.proofs.Common.{◌≡◌, ℕ, ℤ, pos, negsuc, List, [], ◌∷◌, map, Bool, false, ◌||◌, Ordering, Less, Equal, Greater, nat_cmp, Result, Ok, Err, refl, sym, ap, ◌∙◌, subst}
use Rattle.std.proofs.lemmas.Bool.{or_parts}
use Rattle.std.specs.Cmp.Lexicographic.{slice_cmp}
use Rattle.std.specs.Ordering.{match_ordering}
use Rattle.std.specs.Prelude.{IfOk}
use Rattle.serde_json.specs.Data.{Data, null, boolean, number, string, array, object, Members, no_members, member, put}
use Rattle.serde_json.specs.Find.{of_integer}
use Rattle.serde_json.specs.Written.{has_float, items_have_float, members_have_float}
use Rattle.serde_json.specs.View.{view, items_of}
use Rattle.serde_json.specs.declared.value.Value.{Value as Json}
use Rattle.qe_value.specs.declared.value.Plain.{Plain, map-Plain}
use Rattle.qe_value.specs.declared.value.Plain.TheOpen.{Plain-F}
use Rattle.qe_value.specs.declared.value.Plain.TheFolds.{ind-Plain, fold-roll-Plain}
use Rattle.qe_bson.specs.declared.extended_json.fault.JsonFault.{JsonFault}
use Rattle.qe_document.specs.Views.{plain, opened}
use Rattle.qe_value.specs.declared.value.Value.{Value}
use Rattle.qe_base.specs.Answers.{Answers}
use Rattle.qe_bson.specs.JsonFaults.{json_refusal}
use Rattle.qe_bson.specs.JsonReading.{then}
use Rattle.qe_bson.specs.JsonWriting.{long, date, object_id, binary, all_of, array_data, object_data, members_from, json_of, json_field, json_step}
use Rattle.qe_bson.proofs.JsonPrintLemmas.{json_of-plain}
use Rattle.qe_bson.proofs.JsonReadLemmas.{gave}

abbrev HasNoFloat : Plain → Type 0
HasNoFloat v = (d : Data) → json_of v ≡ Ok d → has_float d ≡ false

neither : (a b : Bool) → a ≡ false → b ≡ false → (a || b) ≡ false
neither a b first second = rw (first, second) refl

put_at : (o : Ordering) (k l : List ℕ) (d e : Data) (ms : Members) → has_float d ≡ false → (has_float e || members_have_float ms) ≡ false → members_have_float (put k d ms) ≡ false
    → members_have_float (match_ordering o (member k d (member l e ms)) (member l d ms) (member l e (put k d ms))) ≡ false
put_at Less k l d e ms new old later = neither (has_float d) (has_float e || members_have_float ms) new old
put_at Equal k l d e ms new old later = neither (has_float d) (members_have_float ms) new (or_parts (has_float e) (members_have_float ms) old).1
put_at Greater k l d e ms new old later = neither (has_float e) (members_have_float (put k d ms)) (or_parts (has_float e) (members_have_float ms) old).0 later

put-no_float : (k : List ℕ) (d : Data) (ms : Members) → has_float d ≡ false → members_have_float ms ≡ false → members_have_float (put k d ms) ≡ false
put-no_float k d no_members new old = neither (has_float d) false new refl
put-no_float k d (member l e ms) new old = put_at (slice_cmp nat_cmp k l) k l d e ms new old (put-no_float k d ms new (or_parts (has_float e) (members_have_float ms) old).1)

abbrev Known : Type 0
Known = (v : Plain) × HasNoFloat v

abbrev bare : List ℕ × Known → List ℕ × Plain
bare f = (f.0, f.1.0)

items_no_float : (vs : List Known) (ds : List Data) → all_of (map json_of (map (λ e. e.0) vs)) ≡ Ok ds → items_have_float (items_of ds) ≡ false
items_no_float [] ds e = let none : [] ≡ ds = cc in subst (λ l. items_have_float (items_of l) ≡ false) none refl
items_no_float (x ∷ vs) ds e =
    let one = gave (λ (d : Data). then (λ (rest : List Data). Ok (d ∷ rest)) (all_of (map json_of (map (λ (k : Known). k.0) vs)))) (json_of x.0) ds e in
    let more = gave (λ (rest : List Data). Ok (one.value ∷ rest)) (all_of (map json_of (map (λ (k : Known). k.0) vs))) ds one.then_is in
    let all : one.value ∷ more.value ≡ ds = let h = more.then_is in cc in
    subst (λ l. items_have_float (items_of l) ≡ false) all (neither (has_float one.value) (items_have_float (items_of more.value)) (x.1 one.value one.found) (items_no_float vs more.value more.found))

members_no_float : (fs : List (List ℕ × Known)) (before ms : Members) → members_have_float before ≡ false → members_from before (map json_field (map bare fs)) ≡ Ok ms → members_have_float ms ≡ false
members_no_float [] before ms known e = let same : before ≡ ms = cc in subst (λ m. members_have_float m ≡ false) same known
members_no_float (f ∷ fs) before ms known e =
    let one = gave (λ (d : Data). members_from (put f.0 d before) (map json_field (map bare fs))) (json_of f.1.0) ms e in
    members_no_float fs (put f.0 one.value before) ms (put-no_float f.0 one.value before (f.1.1 one.value one.found) known) one.then_is

leaf : (d r : Data) → has_float r ≡ false → (let made : Result Data JsonFault = Ok r in made ≡ Ok d) → has_float d ≡ false
leaf d r known e = let same : r ≡ d = cc in subst (λ x. has_float x ≡ false) same known

integer : (z : ℤ) → has_float (number (of_integer z)) ≡ false
integer (pos n) = refl
integer (negsuc n) = refl

step : (y : Plain-F Known) (d : Data) → json_step (map-Plain Plain (Result Data JsonFault) json_of (map-Plain Known Plain (λ e. e.0) y)) ≡ Ok d → has_float d ≡ false
step (Plain-F.Double bytes) d e = cc
step (Plain-F.Str text) d e = leaf d (string text) refl e
step (Plain-F.Doc fs) d e =
    let one = gave object_data (members_from no_members (map json_field (map bare fs))) d e in
    leaf d (object one.value) (members_no_float fs no_members one.value refl one.found) one.then_is
step (Plain-F.Array vs) d e =
    let one = gave array_data (all_of (map json_of (map (λ (k : Known). k.0) vs))) d e in
    leaf d (array (items_of one.value)) (items_no_float vs one.value one.found) one.then_is
step (Plain-F.Binary subtype bytes) d e = leaf d (binary subtype bytes) refl e
step (Plain-F.ObjectId id) d e = leaf d (object_id id) refl e
step (Plain-F.Bool b) d e = leaf d (boolean b) refl e
step (Plain-F.Date millis) d e = leaf d (date millis) refl e
step Plain-F.Null d e = leaf d null refl e
step (Plain-F.Int32 z) d e = leaf d (number (of_integer z)) (integer z) e
step (Plain-F.Timestamp n) d e = cc
step (Plain-F.Int64 z) d e = leaf d (long z) refl e
step (Plain-F.Decimal bytes) d e = cc

pub json_of-no_float : (v : Plain) → HasNoFloat v
unfolding json_of
json_of-no_float = ind-Plain HasNoFloat (λ x y is. λ d e.
    step y d (ap (λ z. json_step (map-Plain Plain (Result Data JsonFault) json_of z)) is ∙ sym (fold-roll-Plain (Result Data JsonFault) json_step x) ∙ e))

-- what a call printed has no float
pub no_float : (r : Result Json JsonFault) (v : Value) → Answers view json_refusal r (json_step (opened json_of v)) → IfOk r (λ json. has_float (view json) ≡ false)
no_float (Ok json) v given = json_of-no_float (plain v) (view json) (json_of-plain v ∙ given)
no_float (Err fault) v given = tt
