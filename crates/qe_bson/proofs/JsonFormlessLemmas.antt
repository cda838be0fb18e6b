-- A value is unprintable exactly where a part of it has no form.
use Rattle.std.proofs.Common.{◌≡◌, ℕ, List, [], ◌∷◌, map, Bool, true, false, ◌||◌, Result, Ok, Err, refl, sym, ap, ◌∙◌, subst}
use Rattle.std.specs.Prelude.{◌↔◌}
use Rattle.serde_json.specs.Data.{Data, Members, no_members, put}
use Rattle.qe_value.specs.declared.value.Plain.{Plain, roll-Plain, map-Plain}
use Rattle.qe_value.specs.declared.value.Plain.TheFolds.{ind-Plain, fold-roll-Plain}
use Rattle.qe_value.specs.declared.value.Plain.TheOpen.{Plain-F}
use Rattle.qe_bson.specs.declared.extended_json.fault.JsonFault.{JsonFault}
use Rattle.qe_bson.specs.declared.extended_json.fault.JsonFault.TheVariants.{Unprintable}
use Rattle.qe_bson.specs.JsonReading.{then}
use Rattle.qe_value.specs.Measures.{any_true}
use Rattle.qe_bson.specs.JsonWriting.{all_of, members_from, json_of, json_field, json_step, formless, formless_step}

-- the answer is a fault exactly where the test holds
abbrev Tells : {A : Type 0} → Result A JsonFault → Bool → Type 0
Tells (Ok x) test = test ≡ false
Tells (Err fault) test = (fault ≡ Unprintable) × (test ≡ true)

abbrev Told : Plain → Type 0
Told v = Tells (json_of v) (formless v)

abbrev Known : Type 0
Known = (v : Plain) × Told v

abbrev bare : List ℕ × Known → List ℕ × Plain
bare f = (f.0, f.1.0)

abbrev second : List ℕ × Plain → List ℕ × Bool
second f = (f.0, formless f.1)

or_false : (a b : Bool) → a ≡ false → b ≡ false → (a || b) ≡ false
or_false a b first second = rw (first, second) refl

or_later : (a b : Bool) → b ≡ true → (a || b) ≡ true
or_later true b is = refl
or_later false b is = is

or_first : (a b : Bool) → a ≡ true → (a || b) ≡ true
or_first a b is = rw is refl

tells_item : (r : Result Data JsonFault) (a : Bool) (rest : Result (List Data) JsonFault) (b : Bool) → Tells r a → Tells rest b → Tells (then (λ d. then (λ ds. Ok (d ∷ ds)) rest) r) (a || b)
tells_item (Ok d) a (Ok ds) b first later = or_false a b first later
tells_item (Ok d) a (Err fault) b first later = (later.0, or_later a b later.1)
tells_item (Err fault) a rest b first later = (first.0, or_first a b first.1)

tells_items : (vs : List Known) → Tells (all_of (map json_of (map (λ k. k.0) vs))) (any_true (map formless (map (λ k. k.0) vs)))
tells_items [] = refl
tells_items (x ∷ vs) = tells_item (json_of x.0) (formless x.0) _ _ x.1 (tells_items vs)

tells_member : (r : Result Data JsonFault) (a : Bool) (next : Data → Result Members JsonFault) (b : Bool) → Tells r a → ((d : Data) → Tells (next d) b) → Tells (then next r) (a || b)
tells_member (Ok d) a next b first later = after (next d) (later d)
  where
    after : (r : Result Members JsonFault) → Tells r b → Tells r (a || b)
    after (Ok ms) is = or_false a b first is
    after (Err fault) is = (is.0, or_later a b is.1)
tells_member (Err fault) a next b first later = (first.0, or_first a b first.1)

tells_members : (fs : List (List ℕ × Known)) (before : Members) → Tells (members_from before (map json_field (map bare fs))) (any_true (map (λ f. f.1) (map second (map bare fs))))
tells_members [] before = refl
tells_members (f ∷ fs) before = tells_member (json_of f.1.0) (formless f.1.0) (λ d. members_from (put f.0 d before) (map json_field (map bare fs))) _ f.1.1 (λ d. tells_members fs (put f.0 d before))

tells_made : {A : Type 0} (make : A → Data) (r : Result A JsonFault) (b : Bool) → Tells r b → Tells (then (λ x. Ok (make x)) r) b
tells_made make (Ok x) b is = is
tells_made make (Err fault) b is = is

step : (y : Plain-F Known) → Tells (json_step (map-Plain Plain (Result Data JsonFault) json_of (map-Plain Known Plain (λ k. k.0) y))) (formless_step (map-Plain Plain Bool formless (map-Plain Known Plain (λ k. k.0) y)))
step (Plain-F.Double bytes) = (refl, refl)
step (Plain-F.Str text) = refl
step (Plain-F.Doc fs) = tells_made _ (members_from no_members (map json_field (map bare fs))) _ (tells_members fs no_members)
step (Plain-F.Array vs) = tells_made _ (all_of (map json_of (map (λ k. k.0) vs))) _ (tells_items vs)
step (Plain-F.Binary subtype bytes) = refl
step (Plain-F.ObjectId id) = refl
step (Plain-F.Bool b) = refl
step (Plain-F.Date millis) = refl
step Plain-F.Null = refl
step (Plain-F.Int32 z) = refl
step (Plain-F.Timestamp n) = (refl, refl)
step (Plain-F.Int64 z) = refl
step (Plain-F.Decimal bytes) = (refl, refl)

told : (v : Plain) → Told v
unfolding json_of formless
told = ind-Plain Told (λ x y is.
    let J = λ (z : Plain-F Plain). json_step (map-Plain Plain (Result Data JsonFault) json_of z) in
    let F = λ (z : Plain-F Plain). formless_step (map-Plain Plain Bool formless z) in
    let made = ap J is ∙ sym (fold-roll-Plain (Result Data JsonFault) json_step x) in
    let test = ap F is ∙ sym (fold-roll-Plain Bool formless_step x) in
    subst (λ r. Tells r (formless (roll-Plain x))) made (subst (λ b. Tells (J (map-Plain Known Plain (λ k. k.0) y)) b) test (step y)))

exactly : (r : Result Data JsonFault) (b : Bool) → Tells r b → (r ≡ Err Unprintable) ↔ (b ≡ true)
exactly (Ok d) b is = (λ e. cc, λ e. cc)
exactly (Err fault) b is = (λ e. is.1, λ e. ap Err is.0)

-- a value is unprintable exactly where it has a part without a form
pub json_of-unprintable : (v : Plain) → (json_of v ≡ Err Unprintable) ↔ (formless v ≡ true)
json_of-unprintable v = exactly (json_of v) (formless v) (told v)

only_this : (r : Result Data JsonFault) (b : Bool) (fault : JsonFault) → Tells r b → r ≡ Err fault → fault ≡ Unprintable
only_this (Ok d) b fault is e = cc
only_this (Err other) b fault is e = let same : other ≡ fault = cc in sym same ∙ is.0

-- and no value has another fault
pub json_of-fault : (v : Plain) (fault : JsonFault) → json_of v ≡ Err fault → fault ≡ Unprintable
json_of-fault v fault e = only_this (json_of v) (formless v) fault (told v) e
