-- What is read has no more levels than there is room for.
use Rattle.std.proofs.Common.{◌≡◌, ℕ, zero, suc, ◌≤◌, ℤ, List, ◌∷◌, length, Bool, true, false, cond, nat_eq, Ordering, Less, Equal, Greater, is_eq, nat_cmp, codes, Option, Some, None, Ok, Err, ◌⊎◌, inl, inr, true≢false, refl, sym, ap, ◌∙◌, arith}
use Rattle.std.proofs.lemmas.Bool.{eqb-true}
use Rattle.std.proofs.lemmas.Map.Text.{is_eq-slice_cmp}
use Rattle.std.proofs.lemmas.Slice.Eq.{bytes_eq-Decides}
use Rattle.std.specs.Cmp.Lexicographic.{slice_cmp}
use Rattle.std.specs.Ordering.{match_ordering}
use Rattle.std.specs.Prelude.{is_some}
use Rattle.serde_json.specs.Data.{Data, null, boolean, number, string, array, object, Items, no_items, item, Members, no_members, member, depth, items_depth, members_depth}
use Rattle.serde_json.specs.Events.{members_len}
use Rattle.serde_json.specs.Find.{as_str, as_object, get, get_member}
use Rattle.base64.specs.Engines.{standard}
use Rattle.base64.specs.GeneralPurpose.{decode_of}
use Rattle.hex.specs.Hex.{decode_sized}
use Rattle.std.specs.Result.{result_ok}
use Rattle.qe_value.specs.declared.value.Plain.{Plain}
use Rattle.qe_bson.specs.declared.extended_json.fault.JsonFault.TheVariants.{TooDeep}
use Rattle.qe_json_forms.specs.declared.forms.Form.{Form}
use Rattle.qe_json_forms.specs.declared.forms.Form.TheVariants as form
use Rattle.qe_json_forms.specs.Forms.{◌>>=◌, form_of, long_form, whole_at, whole_in, has_members, binary_at, subtype_at, member_text, bytes_at, first_byte, date_at, value_in}
use Rattle.qe_bson.specs.JsonForms.{form_judged}
use Rattle.qe_bson.specs.JsonReading.{then, in_document, form_or, value_at, items_at, fields_at}
use Rattle.qe_bson.proofs.JsonDeepLemmas.{form_member}
use Rattle.qe_bson.proofs.JsonReadLemmas.{gave}

-- a chain of steps that found something
record Found {A B : Type 0} (first : Option A) (next : A → Option B) (last : B) : Type 0 where
  value : A
  found : first ≡ Some value
  then_is : next value ≡ Some last

find : {A B : Type 0} (first : Option A) (next : A → Option B) (last : B) → (first >>= next) ≡ Some last → Found first next last
find None next last e = cc
find (Some x) next last e = record { value = x; found = refl; then_is = e }

-- a text has no levels
text_depth : (d : Data) (text : List ℕ) → as_str d ≡ Some text → depth d ≡ 0
text_depth (string s) text e = refl
text_depth _ text e = cc

whole_depth : (bits : ℕ) (d : Data) (z : ℤ) → whole_at bits d ≡ Some z → depth d ≡ 0
whole_depth bits d z e = let text = find (as_str d) (whole_in bits) z e in text_depth d text.value text.found

long_depth : (f : Form × Data) (z : ℤ) → long_form f ≡ Some z → depth f.1 ≡ 0
long_depth (form.Long, d) z e = whole_depth 63 d z e
long_depth (form.Int, d) z e = cc
long_depth (form.ObjectId, d) z e = cc
long_depth (form.Binary, d) z e = cc
long_depth (form.Date, d) z e = cc

-- what is found under a name is one of two members
found_at : (o : Ordering) (x : Data) (rest : Option Data) (u : Data) → match_ordering o rest (Some x) rest ≡ Some u → ((o ≡ Equal) × (u ≡ x)) ⊎ (rest ≡ Some u)
found_at Less x rest u e = inr e
found_at Equal x rest u e = inl (refl, cc)
found_at Greater x rest u e = inr e

alike : (a b : List ℕ) → slice_cmp nat_cmp a b ≡ Equal → a ≡ b
alike a b e = (bytes_eq-Decides a b).0 (sym (is_eq-slice_cmp a b) ∙ ap is_eq e)

picked : (name a b : List ℕ) (x y u : Data) → get_member name (member a x (member b y no_members)) ≡ Some u → ((name ≡ a) × (u ≡ x)) ⊎ ((name ≡ b) × (u ≡ y))
picked name a b x y u e = elim (found_at (slice_cmp nat_cmp name a) x (get_member name (member b y no_members)) u e) [
  | inl here ↦ inl (alike name a here.0, here.1)
  | inr later ↦ elim (found_at (slice_cmp nat_cmp name b) y None u later) [ inl here ↦ inr (alike name b here.0, here.1) | inr never ↦ cc ]
]

-- two texts under two names are all that an object of two members has
two_texts : (first second a b : List ℕ) (x y u w : Data) → (first ≡ second → ⊥) → get_member first (member a x (member b y no_members)) ≡ Some u → get_member second (member a x (member b y no_members)) ≡ Some w → depth u ≡ 0 → depth w ≡ 0 → members_depth (member a x (member b y no_members)) ≤ 0
two_texts first second a b x y u w apart e f flat level = elim (picked first a b x y u e) [
  | inl one ↦ elim (picked second a b x y w f) [
    | inl two ↦ absurd (apart (one.0 ∙ sym two.0))
    | inr two ↦ let p : depth u ≡ depth x = ap depth one.1 in let q : depth w ≡ depth y = ap depth two.1 in omega arith
  ]
  | inr one ↦ elim (picked second a b x y w f) [
    | inl two ↦ let p : depth u ≡ depth y = ap depth one.1 in let q : depth w ≡ depth x = ap depth two.1 in omega arith
    | inr two ↦ absurd (apart (one.0 ∙ sym two.0))
  ]
]

names_apart : codes "subType" ≡ codes "base64" → ⊥
names_apart e = let lengths : false ≡ true = ap (λ name. nat_eq (length name) 6) e in cc

pair_depth : (d u w : Data) → get (codes "subType") d ≡ Some u → get (codes "base64") d ≡ Some w → depth u ≡ 0 → depth w ≡ 0 → has_members 2 d ≡ true → (depth d ≤ 1) × (is_some (as_object d) ≡ true)
pair_depth (object no_members) u w e f flat level two = cc
pair_depth (object (member a x no_members)) u w e f flat level two = cc
pair_depth (object (member a x (member b y no_members))) u w e f flat level two =
    let none : members_depth (member a x (member b y no_members)) ≤ 0 = two_texts (codes "subType") (codes "base64") a b x y u w names_apart e f flat level in (omega arith, refl)
pair_depth (object (member a x (member b y (member c z ms)))) u w e f flat level two =
    let count : suc (suc (suc (members_len ms))) ≡ 2 = eqb-true _ 2 two in absurd (omega arith)
pair_depth _ u w e f flat level two = cc

binary_depth : (d : Data) (b : ℕ × List ℕ) → binary_at d ≡ Some b → (depth d ≤ 1) × (is_some (as_object d) ≡ true)
unfolding binary_at
binary_depth d b e =
    let subtype = find (subtype_at d) _ b e in
    let text = find (member_text (codes "base64") d) _ b subtype.then_is in
    let bytes = find (result_ok (decode_of standard text.value)) _ b text.then_is in
    let byte = find (get (codes "subType") d >>= bytes_at 1) first_byte subtype.value subtype.found in
    let digits = find (get (codes "subType") d) (bytes_at 1) byte.value byte.found in
    let said = find (as_str digits.value) (λ t. result_ok (decode_sized t 1)) byte.value digits.then_is in
    let coded = find (get (codes "base64") d) as_str text.value text.found in
    pair_depth d digits.value coded.value digits.found coded.found (text_depth digits.value said.value said.found) (text_depth coded.value text.value coded.then_is) (tested (has_members 2 d) (subtype.value, bytes.value) b bytes.then_is)
  where
    tested : (test : Bool) (made b : ℕ × List ℕ) → cond test (Some made) None ≡ Some b → test ≡ true
    tested true made b e = refl
    tested false made b e = cc

date_depth : (d : Data) (z : ℤ) → date_at d ≡ Some z → (depth d ≤ 1) × (is_some (as_object d) ≡ true)
date_depth (object ms) z e =
    let inner = find (form_of ms) long_form z e in
    let flat = long_depth inner.value z inner.then_is in
    let same = form_member ms inner.value inner.found in (omega arith, refl)
date_depth _ z e = cc

-- a form's content has a level where it is an object
form_depth : (f : Form) (d : Data) (v : Plain) → value_in f d ≡ Some v → (depth d ≤ 1) × (is_some (as_object d) ≡ false → depth d ≡ 0)
form_depth form.Int d v e = let z = find (whole_at 31 d) _ v e in let flat = whole_depth 31 d z.value z.found in (omega arith, λ h. flat)
form_depth form.Long d v e = let z = find (whole_at 63 d) _ v e in let flat = whole_depth 63 d z.value z.found in (omega arith, λ h. flat)
form_depth form.ObjectId d v e =
    let id = find (bytes_at 12 d) _ v e in
    let text = find (as_str d) (λ t. result_ok (decode_sized t 12)) id.value id.found in
    let flat = text_depth d text.value text.found in (omega arith, λ h. flat)
form_depth form.Binary d v e = let b = find (binary_at d) _ v e in let deep = binary_depth d b.value b.found in (deep.0, λ h. absurd (true≢false (sym deep.1 ∙ h)))
form_depth form.Date d v e = let z = find (date_at d) _ v e in let deep = date_depth d z.value z.found in (deep.0, λ h. absurd (true≢false (sym deep.1 ∙ h)))

judged_within : (room : ℕ) (f : Form × Data) (w : Option Plain) (v : Plain) → value_in f.0 f.1 ≡ w → form_judged room f.1 w ≡ Ok v → depth f.1 ≤ room
judged_within room f None v is e = cc
judged_within zero f (Some w) v is e = by_test (is_some (as_object f.1)) refl e
  where
    by_test : (b : Bool) → is_some (as_object f.1) ≡ b → cond b (Err TooDeep) (Ok w) ≡ Ok v → depth f.1 ≤ 0
    by_test true h e = cc
    by_test false h e = let flat : depth f.1 ≡ 0 = (form_depth f.0 f.1 w is).1 h in omega arith
judged_within (suc room) f (Some w) v is e = let low : depth f.1 ≤ 1 = (form_depth f.0 f.1 w is).0 in omega arith

object_within : (ms : Members) (room : ℕ) (v : Plain) → ((fs : List (List ℕ × Plain)) → fields_at room ms ≡ Ok fs → members_depth ms ≤ room) → (f : Option (Form × Data)) → form_of ms ≡ f → form_or room f (in_document (fields_at room ms)) ≡ Ok v → members_depth ms ≤ room
object_within ms room v inner None is e = let fs = gave _ (fields_at room ms) v e in inner fs.value fs.found
object_within ms room v inner (Some f) is e =
    let same = form_member ms f is in
    let low : depth f.1 ≤ room = judged_within room f (value_in f.0 f.1) v refl e in omega arith

mutual
  unfolding value_at items_at fields_at

  pub value_within : (d : Data) (room : ℕ) (v : Plain) → value_at room d ≡ Ok v → depth d ≤ room
  value_within null room v e = omega arith
  value_within (boolean b) room v e = omega arith
  value_within (number n) room v e = omega arith
  value_within (string text) room v e = omega arith
  value_within (array ds) zero v e = cc
  value_within (array ds) (suc room) v e =
      let vs = gave _ (items_at room ds) v e in
      let inner : items_depth ds ≤ room = items_within ds room vs.value vs.found in omega arith
  value_within (object ms) zero v e = cc
  value_within (object ms) (suc room) v e = let inner : members_depth ms ≤ room = object_within ms room v (members_within ms room) (form_of ms) refl e in omega arith

  items_within : (ds : Items) (room : ℕ) (vs : List Plain) → items_at room ds ≡ Ok vs → items_depth ds ≤ room
  items_within no_items room vs e = omega arith
  items_within (item d ds) room vs e =
      let one = gave (λ (v : Plain). then (λ (rest : List Plain). Ok (v ∷ rest)) (items_at room ds)) (value_at room d) vs e in
      let more = gave (λ (rest : List Plain). Ok (one.value ∷ rest)) (items_at room ds) vs one.then_is in
      let first : depth d ≤ room = value_within d room one.value one.found in
      let rest : items_depth ds ≤ room = items_within ds room more.value more.found in omega arith

  members_within : (ms : Members) (room : ℕ) (fs : List (List ℕ × Plain)) → fields_at room ms ≡ Ok fs → members_depth ms ≤ room
  members_within no_members room fs e = omega arith
  members_within (member name d ms) room fs e =
      let one = gave (λ (v : Plain). then (λ (rest : List (List ℕ × Plain)). Ok ((name, v) ∷ rest)) (fields_at room ms)) (value_at room d) fs e in
      let more = gave (λ (rest : List (List ℕ × Plain)). Ok ((name, one.value) ∷ rest)) (fields_at room ms) fs one.then_is in
      let first : depth d ≤ room = value_within d room one.value one.found in
      let rest : members_depth ms ≤ room = members_within ms room more.value more.found in omega arith
