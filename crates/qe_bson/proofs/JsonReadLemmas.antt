-- Loops over items and members: what was read before, and what is read of the rest.
use Rattle.std.proofs.Common.{◌≡◌, ℕ, suc, ◌+◌, ◌<◌, ◌≤◌, List, [], ◌∷◌, ◌++◌, length, get_or, drop, false, Less, is_eq, Result, Ok, Err, String, Global, string_bytes, string_cmp, bytes_eq, refl, sym, ap, ◌∙◌, append_assoc, append-nil, add-one, subst}
use Rattle.std.proofs.Math.Seq.{drop-cons}
use Rattle.std.proofs.lemmas.List.{drop_all}
use Rattle.std.proofs.lemmas.Map.Text.{is_eq-slice_cmp}
use Rattle.std.specs.List.{AllByRecursion}
use Rattle.std.specs.List.Sorted.{IsStrictlySortedBy}
use Rattle.std.specs.Map.{keys_of}
use Rattle.serde_json.proofs.Views.{Entry}
use Rattle.serde_json.specs.View.{view, items_view, members_view}
use Rattle.serde_json.specs.declared.value.Value.{Value}
use Rattle.qe_document.specs.Names.{is_named, Distinct}
use Rattle.qe_value.specs.declared.value.Plain.{Plain}
use Rattle.qe_bson.specs.declared.extended_json.fault.JsonFault.{JsonFault}
use Rattle.qe_bson.specs.declared.extended_json.fault.JsonFault.TheVariants.{BadNumber, BadForm, TooDeep, Unprintable, NoMemory}
use Rattle.qe_base.specs.Answers.{Refuses}
use Rattle.qe_bson.specs.JsonFaults.{json_refusal}
use Rattle.qe_bson.specs.JsonReading.{then, value_at, items_at, fields_at}

-- the items before those that are read of the rest
abbrev pub with_items : List Plain → Result (List Plain) JsonFault → Result (List Plain) JsonFault
with_items front (Ok vs) = Ok (front ++ vs)
with_items front (Err fault) = Err fault

abbrev pub with_fields : List (List ℕ × Plain) → Result (List (List ℕ × Plain)) JsonFault → Result (List (List ℕ × Plain)) JsonFault
with_fields front (Ok fs) = Ok (front ++ fs)
with_fields front (Err fault) = Err fault

with_items-push : (front : List Plain) (v : Plain) (r : Result (List Plain) JsonFault) → with_items (front ++ v ∷ []) r ≡ with_items front (then (λ vs. Ok (v ∷ vs)) r)
with_items-push front v (Ok vs) = ap Ok (append_assoc front (v ∷ []) vs)
with_items-push front v (Err fault) = refl

with_fields-push : (front : List (List ℕ × Plain)) (f : List ℕ × Plain) (r : Result (List (List ℕ × Plain)) JsonFault) → with_fields (front ++ f ∷ []) r ≡ with_fields front (then (λ fs. Ok (f ∷ fs)) r)
with_fields-push front f (Ok fs) = ap Ok (append_assoc front (f ∷ []) fs)
with_fields-push front f (Err fault) = refl

-- a fault of a part is the fault of the whole
pub fails : {A B : Type 0} (fault : JsonFault) (part : Result A JsonFault) (whole : Result B JsonFault) → ((f : JsonFault) → part ≡ Err f → whole ≡ Err f) → Refuses (json_refusal fault) part → Refuses (json_refusal fault) whole
fails NoMemory part whole lift e = tt
fails BadNumber part whole lift e = lift BadNumber e
fails BadForm part whole lift e = lift BadForm e
fails TooDeep part whole lift e = lift TooDeep e
fails Unprintable part whole lift e = lift Unprintable e

module _ (room : ℕ) (front : List Plain) (items : List Value) (k : ℕ) (whole : Result (List Plain) JsonFault)
    (so_far : with_items front (items_at room (items_view (drop k items))) ≡ whole) where
  item_left : (x : Value) → k < length items → x ≡ get_or items k x → drop k items ≡ x ∷ drop (k + 1) items
  item_left x lt is = rw add-one (drop-cons items k x lt ∙ ap (λ y. y ∷ drop (suc k) items) (sym is))

  -- an item is read
  pub items_go_on : (x : Value) (v : Plain) → k < length items → x ≡ get_or items k x → value_at room (view x) ≡ Ok v → with_items (front ++ v ∷ []) (items_at room (items_view (drop (k + 1) items))) ≡ whole
  unfolding items_at
  items_go_on x v lt is read =
      let rest = items_at room (items_view (drop (k + 1) items)) in
      let step = ap (then (λ (v : Plain). then (λ (vs : List Plain). Ok (v ∷ vs)) rest)) read in
      with_items-push front v rest ∙ ap (with_items front) (sym step) ∙ ap (λ l. with_items front (items_at room (items_view l))) (sym (item_left x lt is)) ∙ so_far

  -- an item has a fault
  pub items_fail : (x : Value) (fault : JsonFault) → k < length items → x ≡ get_or items k x → value_at room (view x) ≡ Err fault → whole ≡ Err fault
  unfolding items_at
  items_fail x fault lt is read =
      let rest = items_at room (items_view (drop (k + 1) items)) in
      let step = ap (then (λ (v : Plain). then (λ (vs : List Plain). Ok (v ∷ vs)) rest)) read in
      sym so_far ∙ ap (λ l. with_items front (items_at room (items_view l))) (item_left x lt is) ∙ ap (with_items front) step

  -- no item is left
  pub items_done : length items ≤ k → whole ≡ Ok front
  unfolding items_at
  items_done le = sym so_far ∙ ap (λ l. with_items front (items_at room (items_view l))) (drop_all k items le) ∙ ap Ok (append-nil front)

module _ (room : ℕ) (front : List (List ℕ × Plain)) (left : List Entry) (whole : Result (List (List ℕ × Plain)) JsonFault)
    (so_far : with_fields front (fields_at room (members_view left)) ≡ whole) where
  -- a member is read
  pub fields_go_on : (e : Entry) (more : List Entry) (v : Plain) → left ≡ e ∷ more → value_at room (view e.1) ≡ Ok v → with_fields (front ++ (string_bytes e.0, v) ∷ []) (fields_at room (members_view more)) ≡ whole
  unfolding fields_at
  fields_go_on e more v is read =
      let rest = fields_at room (members_view more) in
      let step = ap (then (λ (v : Plain). then (λ (fs : List (List ℕ × Plain)). Ok ((string_bytes e.0, v) ∷ fs)) rest)) read in
      with_fields-push front (string_bytes e.0, v) rest ∙ ap (with_fields front) (sym step) ∙ ap (λ l. with_fields front (fields_at room (members_view l))) (sym is) ∙ so_far

  -- a member has a fault
  pub fields_fail : (e : Entry) (more : List Entry) (fault : JsonFault) → left ≡ e ∷ more → value_at room (view e.1) ≡ Err fault → whole ≡ Err fault
  unfolding fields_at
  fields_fail e more fault is read =
      let rest = fields_at room (members_view more) in
      let step = ap (then (λ (v : Plain). then (λ (fs : List (List ℕ × Plain)). Ok ((string_bytes e.0, v) ∷ fs)) rest)) read in
      sym so_far ∙ ap (λ l. with_fields front (fields_at room (members_view l))) is ∙ ap (with_fields front) step

  -- no member is left
  pub fields_done : left ≡ [] → whole ≡ Ok front
  unfolding fields_at
  fields_done is = sym so_far ∙ ap (λ l. with_fields front (fields_at room (members_view l))) is ∙ ap Ok (append-nil front)

-- a chain of steps that gave a value
pub record Gave {A B : Type 0} (next : A → Result B JsonFault) (first : Result A JsonFault) (last : B) : Type 0 where
  pub value : A
  pub found : first ≡ Ok value
  pub then_is : next value ≡ Ok last

pub gave : {A B : Type 0} (next : A → Result B JsonFault) (first : Result A JsonFault) (last : B) → then next first ≡ Ok last → Gave next first last
gave next (Ok x) last e = record { value = x; found = refl; then_is = e }
gave next (Err fault) last e = cc

-- names of an object that are above a name aren't that name
not_named : (room : ℕ) (k : String Global) (es : List Entry) (fs : List (List ℕ × Plain)) → AllByRecursion (λ y. string_cmp k y ≡ Less) (keys_of es) → fields_at room (members_view es) ≡ Ok fs → is_named (string_bytes k) fs ≡ false
unfolding fields_at
not_named room k [] fs above e = let none : [] ≡ fs = cc in subst (λ l. is_named (string_bytes k) l ≡ false) none refl
not_named room k (x ∷ es) fs above e =
    let one = gave (λ (v : Plain). then (λ (rest : List (List ℕ × Plain)). Ok ((string_bytes x.0, v) ∷ rest)) (fields_at room (members_view es))) (value_at room (view x.1)) fs e in
    let more = gave (λ (rest : List (List ℕ × Plain)). Ok ((string_bytes x.0, one.value) ∷ rest)) (fields_at room (members_view es)) fs one.then_is in
    let all : (string_bytes x.0, one.value) ∷ more.value ≡ fs = let h = more.then_is in cc in
    let here : bytes_eq (string_bytes k) (string_bytes x.0) ≡ false = sym (is_eq-slice_cmp (string_bytes k) (string_bytes x.0)) ∙ ap is_eq above.0 in
    subst (λ l. is_named (string_bytes k) l ≡ false) all (rw here (not_named room k es more.value above.1 more.found))

-- the names of an object are distinct
pub Distinct-rising : (room : ℕ) (es : List Entry) (fs : List (List ℕ × Plain)) → IsStrictlySortedBy string_cmp (keys_of es) → fields_at room (members_view es) ≡ Ok fs → Distinct fs
unfolding fields_at IsStrictlySortedBy
Distinct-rising room [] fs rises e = let none : [] ≡ fs = cc in subst (λ l. Distinct l) none tt
Distinct-rising room (x ∷ es) fs rises e =
    let one = gave (λ (v : Plain). then (λ (rest : List (List ℕ × Plain)). Ok ((string_bytes x.0, v) ∷ rest)) (fields_at room (members_view es))) (value_at room (view x.1)) fs e in
    let more = gave (λ (rest : List (List ℕ × Plain)). Ok ((string_bytes x.0, one.value) ∷ rest)) (fields_at room (members_view es)) fs one.then_is in
    let all : (string_bytes x.0, one.value) ∷ more.value ≡ fs = let h = more.then_is in cc in
    subst (λ l. Distinct l) all (not_named room x.0 es more.value rises.0 more.found, Distinct-rising room es more.value rises.1 more.found)
