-- What Extended JSON gives has a form.
use Rattle.std.proofs.Common.{◌≡◌, ℕ, zero, suc, ℤ, List, [], ◌∷◌, map, Bool, true, false, ◌&&◌, cond, Option, None, Some, Ok, Err, refl, subst, ◌∙◌, rules}
use Rattle.std.proofs.lemmas.Bool.{or_from}
use Rattle.std.proofs.lemmas.Simd.{map-map}
use Rattle.std.specs.Prelude.{is_some, ◌==◌}
use Rattle.serde_json.specs.Data.{Data, null, boolean, number, string, array, object, Items, no_items, item, Members, no_members, member}
use Rattle.serde_json.specs.Find.{as_i64, as_object}
use Rattle.qe_value.specs.declared.value.Plain.{Plain, the_lemmas}
use Rattle.qe_value.specs.declared.value.Plain.TheVariants as p
use Rattle.qe_value.specs.Measures.{any_true}
use Rattle.qe_bson.specs.declared.extended_json.fault.JsonFault.TheVariants.{TooDeep}
use Rattle.qe_json_forms.specs.declared.forms.Form.{Form}
use Rattle.qe_json_forms.specs.declared.forms.Form.TheVariants as form
use Rattle.qe_json_forms.specs.Forms.{◌>>=◌, binary_at, bytes_at, date_at, fits, form_of, value_in, whole_at}
use Rattle.qe_bson.specs.JsonForms.{form_judged, number_of_int}
use Rattle.qe_bson.specs.JsonReading.{then, in_document, form_or, value_at, items_at, fields_at}
use Rattle.qe_bson.specs.JsonWriting.{formless}
use Rattle.qe_bson.proofs.JsonReadLemmas.{gave}

abbrev pub Formed : Plain → Type 0
Formed v = formless v ≡ false

-- no value of a list, or of a document's, lacks a form
abbrev AreFormed : List Plain → Type 0
AreFormed vs = any_true (map formless vs) ≡ false

abbrev pub HaveForms : List (List ℕ × Plain) → Type 0
HaveForms fs = any_true (map (λ f. formless f.1) fs) ≡ false

formless-Null : formless p.Null ≡ false
unfolding formless
formless-Null = search (rules, the_lemmas)

formless-Bool : (b : Bool) → formless (p.Bool b) ≡ false
unfolding formless
formless-Bool b = search (rules, the_lemmas)

formless-Str : (t : List ℕ) → formless (p.Str t) ≡ false
unfolding formless
formless-Str t = search (rules, the_lemmas)

formless-Int32 : (z : ℤ) → formless (p.Int32 z) ≡ false
unfolding formless
formless-Int32 z = search (rules, the_lemmas)

pub formless-Int64 : (z : ℤ) → formless (p.Int64 z) ≡ false
unfolding formless
formless-Int64 z = search (rules, the_lemmas)

formless-ObjectId : (b : List ℕ) → formless (p.ObjectId b) ≡ false
unfolding formless
formless-ObjectId b = search (rules, the_lemmas)

formless-Binary : (s : ℕ) (b : List ℕ) → formless (p.Binary s b) ≡ false
unfolding formless
formless-Binary s b = search (rules, the_lemmas)

formless-Date : (z : ℤ) → formless (p.Date z) ≡ false
unfolding formless
formless-Date z = search (rules, the_lemmas)

formless-Array : (vs : List Plain) → formless (p.Array vs) ≡ any_true (map formless vs)
unfolding formless
formless-Array vs = search (rules, the_lemmas, map-map)

pub formless-Doc : (fs : List (List ℕ × Plain)) → formless (p.Doc fs) ≡ any_true (map (λ f. formless f.1) fs)
unfolding formless
formless-Doc fs = search (rules, the_lemmas, map-map)

-- a number
int_formed : (z : ℤ) (b : Bool) → formless (cond b (p.Int32 z) (p.Int64 z)) ≡ false
int_formed z true = formless-Int32 z
int_formed z false = formless-Int64 z

number_formed : (o : Option ℤ) (v : Plain) → number_of_int o ≡ Ok v → Formed v
number_formed None v e = cc
number_formed (Some z) v e =
    let is : cond (fits 31 z) (p.Int32 z) (p.Int64 z) ≡ v = cc in
    subst Formed is (int_formed z (fits 31 z))

-- what is made of something that is found
made_formed : {A : Type 0} (make : A → Plain) → ((x : A) → Formed (make x)) → (o : Option A) (v : Plain) → (o >>= λ x. Some (make x)) ≡ Some v → Formed v
made_formed make each None v e = cc
made_formed make each (Some x) v e = let is : make x ≡ v = cc in subst Formed is (each x)

in_form : (f : Form) (d : Data) (v : Plain) → value_in f d ≡ Some v → Formed v
in_form form.Int d v e = made_formed (λ z. p.Int32 z) formless-Int32 (whole_at 31 d) v e
in_form form.Long d v e = made_formed (λ z. p.Int64 z) formless-Int64 (whole_at 63 d) v e
in_form form.ObjectId d v e = made_formed (λ b. p.ObjectId b) formless-ObjectId (bytes_at 12 d) v e
in_form form.Binary d v e = made_formed (λ b. p.Binary b.0 b.1) (λ b. formless-Binary b.0 b.1) (binary_at d) v e
in_form form.Date d v e = made_formed (λ z. p.Date z) formless-Date (date_at d) v e

judged_formed : (room : ℕ) (d : Data) (o : Option Plain) (v : Plain) → ((w : Plain) → o ≡ Some w → Formed w) → form_judged room d o ≡ Ok v → Formed v
judged_formed room d None v each e = cc
judged_formed room d (Some w) v each e = by_test (room == 0 && is_some (as_object d)) e
  where
    by_test : (b : Bool) → cond b (Err TooDeep) (Ok w) ≡ Ok v → Formed v
    by_test true made = cc
    by_test false made = let is : w ≡ v = cc in subst Formed is (each w refl)

object_formed : (ms : Members) (room : ℕ) (v : Plain) → ((fs : List (List ℕ × Plain)) → fields_at room ms ≡ Ok fs → HaveForms fs)
    → (f : Option (Form × Data)) → form_or room f (in_document (fields_at room ms)) ≡ Ok v → Formed v
object_formed ms room v inner None e =
    let fs = gave _ (fields_at room ms) v e in
    let last = fs.then_is in
    let is : p.Doc fs.value ≡ v = cc in
    subst Formed is (formless-Doc fs.value ∙ inner fs.value fs.found)
object_formed ms room v inner (Some f) e = judged_formed room f.1 (value_in f.0 f.1) v (in_form f.0 f.1) e

mutual
  unfolding value_at items_at fields_at

  pub value_formed : (d : Data) (room : ℕ) (v : Plain) → value_at room d ≡ Ok v → Formed v
  value_formed null room v e = let is : p.Null ≡ v = cc in subst Formed is formless-Null
  value_formed (boolean b) room v e = let is : p.Bool b ≡ v = cc in subst Formed is (formless-Bool b)
  value_formed (number n) room v e = number_formed (as_i64 n) v e
  value_formed (string text) room v e = let is : p.Str text ≡ v = cc in subst Formed is (formless-Str text)
  value_formed (array ds) zero v e = cc
  value_formed (array ds) (suc room) v e =
      let vs = gave _ (items_at room ds) v e in
      let last = vs.then_is in
      let is : p.Array vs.value ≡ v = cc in
      subst Formed is (formless-Array vs.value ∙ items_formed ds room vs.value vs.found)
  value_formed (object ms) zero v e = cc
  value_formed (object ms) (suc room) v e = object_formed ms room v (members_formed ms room) (form_of ms) e

  items_formed : (ds : Items) (room : ℕ) (vs : List Plain) → items_at room ds ≡ Ok vs → AreFormed vs
  items_formed no_items room vs e = let is : [] ≡ vs = cc in subst AreFormed is refl
  items_formed (item d ds) room vs e =
      let one = gave (λ (v : Plain). then (λ (rest : List Plain). Ok (v ∷ rest)) (items_at room ds)) (value_at room d) vs e in
      let more = gave (λ (rest : List Plain). Ok (one.value ∷ rest)) (items_at room ds) vs one.then_is in
      let last = more.then_is in
      let is : one.value ∷ more.value ≡ vs = cc in
      subst AreFormed is (or_from _ _ (value_formed d room one.value one.found) (items_formed ds room more.value more.found))

  members_formed : (ms : Members) (room : ℕ) (fs : List (List ℕ × Plain)) → fields_at room ms ≡ Ok fs → HaveForms fs
  members_formed no_members room fs e = let is : [] ≡ fs = cc in subst HaveForms is refl
  members_formed (member name d ms) room fs e =
      let one = gave (λ (v : Plain). then (λ (rest : List (List ℕ × Plain)). Ok ((name, v) ∷ rest)) (fields_at room ms)) (value_at room d) fs e in
      let more = gave (λ (rest : List (List ℕ × Plain)). Ok ((name, one.value) ∷ rest)) (fields_at room ms) fs one.then_is in
      let last = more.then_is in
      let is : (name, one.value) ∷ more.value ≡ fs = cc in
      subst HaveForms is (or_from _ _ (value_formed d room one.value one.found) (members_formed ms room more.value more.found))
