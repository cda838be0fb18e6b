-- What is read has no more levels than there is room for, and TooDeep comes only where there are more.
use Rattle.std.proofs.Common.{◌≡◌, ℕ, zero, suc, ◌<◌, ◌≤◌, List, ◌∷◌, Bool, true, false, cond, nat_eq, Option, Some, None, Result, Ok, Err, ◌⊎◌, inl, inr, refl, sym, ap, arith}
use Rattle.std.proofs.lemmas.Bool.{eqb-true}
use Rattle.std.specs.Prelude.{◌&&◌, is_some}
use Rattle.serde_json.specs.Data.{Data, null, boolean, number, string, array, object, Items, no_items, item, Members, no_members, member, depth, items_depth, members_depth}
use Rattle.serde_json.specs.Find.{as_i64, as_object}
use Rattle.std.specs.Prelude.{ℤ}
use Rattle.qe_value.specs.declared.value.Plain.{Plain}
use Rattle.qe_bson.specs.declared.extended_json.fault.JsonFault.{JsonFault}
use Rattle.qe_bson.specs.declared.extended_json.fault.JsonFault.TheVariants.{TooDeep}
use Rattle.qe_json_forms.specs.declared.forms.Form.{Form}
use Rattle.qe_json_forms.specs.Forms.{◌>>=◌, form_named, form_of, value_in}
use Rattle.qe_bson.specs.JsonForms.{form_judged, number_of_int}
use Rattle.qe_bson.specs.JsonReading.{then, in_document, form_or, value_at, items_at, fields_at}
use Rattle.qe_json_forms.proofs.FormLemmas.{both}

-- a fault behind a step is the step's, or the next one's
from_step : {A B : Type 0} (next : A → Result B JsonFault) (r : Result A JsonFault) → then next r ≡ Err TooDeep → (r ≡ Err TooDeep) ⊎ ((x : A) × (next x ≡ Err TooDeep))
from_step next (Ok x) e = inr (x, e)
from_step next (Err fault) e = inl (cc)

-- the last step of a chain has no fault
from_first : {A B : Type 0} (made : A → B) (r : Result A JsonFault) → then (λ x. Ok (made x)) r ≡ Err TooDeep → r ≡ Err TooDeep
from_first made (Ok x) e = cc
from_first made (Err fault) e = cc

judged_deep : (room : ℕ) (d : Data) (v : Option Plain) → form_judged room d v ≡ Err TooDeep → (room ≡ 0) × (is_some (as_object d) ≡ true)
judged_deep room d None e = cc
judged_deep room d (Some v) e = by_test (nat_eq room 0 && is_some (as_object d)) refl e
  where
    by_test : (b : Bool) → (nat_eq room 0 && is_some (as_object d)) ≡ b → cond b (Err TooDeep) (Ok v) ≡ Err TooDeep → (room ≡ 0) × (is_some (as_object d) ≡ true)
    by_test true h e = let parts = both (nat_eq room 0) _ h in (eqb-true room 0 parts.0, parts.1)
    by_test false h e = cc

object_depth : (d : Data) → is_some (as_object d) ≡ true → 1 ≤ depth d
object_depth (object ms) e = omega arith
object_depth _ e = cc

named_data : (o : Option Form) (d : Data) (f : Form × Data) → (o >>= λ g. Some (g, d)) ≡ Some f → f.1 ≡ d
named_data None d f e = cc
named_data (Some g) d f e = let same : (g, d) ≡ f = cc in sym (ap (λ x. x.1) same)

-- a form's object is as deep as what stands in it
pub form_member : (ms : Members) (f : Form × Data) → form_of ms ≡ Some f → members_depth ms ≡ depth f.1
form_member no_members f e = cc
form_member (member name d no_members) f e = let same = named_data (form_named name) d f e in let deep : depth f.1 ≡ depth d = ap depth same in omega arith
form_member (member name d (member other o ms)) f e = cc

deep_object : (ms : Members) (room : ℕ) → (fields_at room ms ≡ Err TooDeep → room < members_depth ms) → (f : Option (Form × Data)) → form_of ms ≡ f → form_or room f (in_document (fields_at room ms)) ≡ Err TooDeep → room < members_depth ms
deep_object ms room inner None is e = inner (from_first _ (fields_at room ms) e)
deep_object ms room inner (Some f) is e =
    let parts = judged_deep room f.1 (value_in f.0 f.1) e in
    let deep = object_depth f.1 parts.1 in
    let same = form_member ms f is in omega arith

no_depth : (o : Option ℤ) → number_of_int o ≡ Err TooDeep → ⊥
no_depth None e = cc
no_depth (Some z) e = cc

mutual
  unfolding value_at items_at fields_at

  pub deep_value : (d : Data) (room : ℕ) → value_at room d ≡ Err TooDeep → room < depth d
  deep_value null room e = cc
  deep_value (boolean b) room e = cc
  deep_value (number n) room e = absurd (no_depth (as_i64 n) e)
  deep_value (string text) room e = cc
  deep_value (array ds) zero e = omega arith
  deep_value (array ds) (suc room) e = let inner : room < items_depth ds = deep_items ds room (from_first _ (items_at room ds) e) in omega arith
  deep_value (object ms) zero e = omega arith
  deep_value (object ms) (suc room) e = let inner : room < members_depth ms = deep_object ms room (deep_members ms room) (form_of ms) refl e in omega arith

  deep_items : (ds : Items) (room : ℕ) → items_at room ds ≡ Err TooDeep → room < items_depth ds
  deep_items no_items room e = cc
  deep_items (item d ds) room e = elim (from_step (λ (v : Plain). then (λ (vs : List Plain). Ok (v ∷ vs)) (items_at room ds)) (value_at room d) e) [
    | inl here ↦ let first : room < depth d = deep_value d room here in omega arith
    | inr later ↦ let rest : room < items_depth ds = deep_items ds room (from_first _ (items_at room ds) later.1) in omega arith
  ]

  deep_members : (ms : Members) (room : ℕ) → fields_at room ms ≡ Err TooDeep → room < members_depth ms
  deep_members no_members room e = cc
  deep_members (member name d ms) room e = elim (from_step (λ (v : Plain). then (λ (fs : List (List ℕ × Plain)). Ok ((name, v) ∷ fs)) (fields_at room ms)) (value_at room d) e) [
    | inl here ↦ let first : room < depth d = deep_value d room here in omega arith
    | inr later ↦ let rest : room < members_depth ms = deep_members ms room (from_first _ (fields_at room ms) later.1) in omega arith
  ]
