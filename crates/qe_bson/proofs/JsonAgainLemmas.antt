-- What is printed of a value is read as the value again.
use Rattle.std.proofs.Common.{◌≡◌, ℕ, ◌≤◌, List, [], ◌∷◌, ◌++◌, map, true, Ordering, Less, Equal, Greater, nat_cmp, Ok, refl, ap, ◌∙◌, subst, arith}
use Rattle.std.proofs.lemmas.Cmp.{nat_list_cmp_total}
use Rattle.std.specs.Cmp.Lexicographic.{slice_cmp}
use Rattle.std.specs.List.{list_all}
use Rattle.std.specs.Ordering.{is_lt, ordering_reverse}
use Rattle.serde_json.specs.Data.{Data, Members, no_members, member, put}
use Rattle.serde_json.specs.View.{items_of}
use Rattle.qe_value.specs.declared.value.Plain.{Plain}
use Rattle.qe_bson.specs.JsonReading.{then, value_at, items_at, fields_at}
use Rattle.qe_bson.specs.JsonRound.{typed, ordered, levels}
use Rattle.qe_value.specs.Measures.{all_true, greatest}
use Rattle.qe_bson.specs.JsonWriting.{all_of, json_of}
use Rattle.qe_json_forms.proofs.FormLemmas.{both}
use Rattle.qe_bson.proofs.JsonReadLemmas.{gave}

abbrev pub ReadsBack : Plain → Type 0
ReadsBack v = (room : ℕ) (d : Data) → json_of v ≡ Ok d → typed v ≡ true → ordered v ≡ true → levels v ≤ room → value_at room d ≡ Ok v

abbrev pub Known : Type 0
Known = (v : Plain) × ReadsBack v

abbrev pub bare : List ℕ × Known → List ℕ × Plain
bare f = (f.0, f.1.0)

pub items_again : (vs : List Known) (room : ℕ) (ds : List Data) → all_of (map json_of (map (λ k. k.0) vs)) ≡ Ok ds → all_true (map typed (map (λ k. k.0) vs)) ≡ true → all_true (map ordered (map (λ k. k.0) vs)) ≡ true
    → greatest (map levels (map (λ k. k.0) vs)) ≤ room → items_at room (items_of ds) ≡ Ok (map (λ k. k.0) vs)
unfolding items_at
items_again [] room ds e t o le = let none : [] ≡ ds = cc in subst (λ l. items_at room (items_of l) ≡ Ok []) none refl
items_again (x ∷ vs) room ds e t o le =
    let others = map (λ (k : Known). k.0) vs in
    let one = gave (λ (d : Data). then (λ (rest : List Data). Ok (d ∷ rest)) (all_of (map json_of others))) (json_of x.0) ds e in
    let more = gave (λ (rest : List Data). Ok (one.value ∷ rest)) (all_of (map json_of others)) ds one.then_is in
    let all : one.value ∷ more.value ≡ ds = let h = more.then_is in cc in
    let types = both (typed x.0) (all_true (map typed others)) t in
    let orders = both (ordered x.0) (all_true (map ordered others)) o in
    let read = x.1 room one.value one.found types.0 orders.0 (omega arith) in
    let rest = items_again vs room more.value more.found types.1 orders.1 (omega arith) in
    subst (λ l. items_at room (items_of l) ≡ Ok (x.0 ∷ others)) all
    (ap (then (λ (v : Plain). then (λ (us : List Plain). Ok (v ∷ us)) (items_at room (items_of more.value)))) read ∙ ap (then (λ (us : List Plain). Ok (x.0 ∷ us))) rest)

-- each name of an object is below this one
abbrev pub Below : Members → List ℕ → Type 0
Below no_members name = Unit {0}
Below (member other d ms) name = (slice_cmp nat_cmp name other ≡ Greater) × Below ms name

abbrev pub AllBelow : Members → List (List ℕ) → Type 0
AllBelow ms [] = Unit {0}
AllBelow ms (name ∷ names) = Below ms name × AllBelow ms names

pub none_below : (names : List (List ℕ)) → AllBelow no_members names
none_below [] = tt
none_below (name ∷ names) = (tt, none_below names)

Below-put : (ms : Members) (name : List ℕ) (d : Data) (later : List ℕ) → Below ms later → slice_cmp nat_cmp later name ≡ Greater → Below ms name → Below (put name d ms) later
Below-put no_members name d later before above new = (above, tt)
Below-put (member other e ms) name d later before above new = rw new.0 (before.0, Below-put ms name d later before.1 above new.1)

is_less : (o : Ordering) → is_lt o ≡ true → o ≡ Less
is_less Less e = refl
is_less Equal e = cc
is_less Greater e = cc

pub AllBelow-put : (names : List (List ℕ)) (ms : Members) (name : List ℕ) (d : Data) → AllBelow ms names → Below ms name → list_all (λ later. is_lt (slice_cmp nat_cmp name later)) names ≡ true → AllBelow (put name d ms) names
AllBelow-put [] ms name d before new rises = tt
AllBelow-put (later ∷ names) ms name d before new rises =
    let parts = both (is_lt (slice_cmp nat_cmp name later)) (list_all (λ l. is_lt (slice_cmp nat_cmp name l)) names) rises in
    let above : slice_cmp nat_cmp later name ≡ Greater = nat_list_cmp_total.antisymm later name ∙ ap ordering_reverse (is_less _ parts.0) in
    (Below-put ms name d later before.0 above new, AllBelow-put names ms name d before.1 new parts.1)

-- a member behind all others is read behind them
pub fields_at-put : (ms : Members) (room : ℕ) (name : List ℕ) (d : Data) (v : Plain) (fs : List (List ℕ × Plain)) → Below ms name → fields_at room ms ≡ Ok fs → value_at room d ≡ Ok v → fields_at room (put name d ms) ≡ Ok (fs ++ (name, v) ∷ [])
unfolding fields_at
fields_at-put no_members room name d v fs above e read =
    let none : [] ≡ fs = cc in
    let only = ap (then (λ (w : Plain). Ok ((name, w) ∷ []))) read in
    subst (λ l. fields_at room (member name d no_members) ≡ Ok (l ++ (name, v) ∷ [])) none only
fields_at-put (member other o ms) room name d v fs above e read =
    let one = gave (λ (w : Plain). then (λ (rest : List (List ℕ × Plain)). Ok ((other, w) ∷ rest)) (fields_at room ms)) (value_at room o) fs e in
    let more = gave (λ (rest : List (List ℕ × Plain)). Ok ((other, one.value) ∷ rest)) (fields_at room ms) fs one.then_is in
    let all : (other, one.value) ∷ more.value ≡ fs = let h = more.then_is in cc in
    let rest = fields_at-put ms room name d v more.value above.1 more.found read in
    let first = ap (then (λ (w : Plain). then (λ (rest : List (List ℕ × Plain)). Ok ((other, w) ∷ rest)) (fields_at room (put name d ms)))) one.found in
    rw above.0 (subst (λ l. fields_at room (member other o (put name d ms)) ≡ Ok (l ++ (name, v) ∷ [])) all (first ∙ ap (then (λ (rest : List (List ℕ × Plain)). Ok ((other, one.value) ∷ rest))) rest))
