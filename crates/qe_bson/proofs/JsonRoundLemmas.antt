-- A document and a whole value are read again from what is printed of them.
use Rattle.std.proofs.Common.{◌≡◌, ℕ, zero, suc, ◌≤◌, List, [], ◌∷◌, ◌++◌, map, Bool, true, false, not, Option, Some, None, Ok, refl, sym, ap, ◌∙◌, subst, append_assoc, append-nil, arith}
use Rattle.std.specs.Cmp.Lexicographic.{slice_cmp}
use Rattle.std.specs.List.{list_all}
use Rattle.std.specs.Ordering.{nat_cmp, is_lt}
use Rattle.std.specs.Prelude.{is_some}
use Rattle.serde_json.specs.Data.{Data, array, object, Members, no_members, member, put}
use Rattle.serde_json.specs.View.{items_of}
use Rattle.qe_value.specs.declared.value.Plain.{Plain}
use Rattle.qe_value.specs.declared.value.Plain.TheOpen.{Plain-F}
use Rattle.qe_value.specs.declared.value.Plain.TheVariants as p
use Rattle.qe_json_forms.specs.Forms.{form_named, form_of}
use Rattle.qe_bson.specs.JsonReading.{then, in_array, in_document, form_or, value_at, fields_at}
use Rattle.qe_bson.specs.JsonRound.{typed, rising, like_a_form, ordered, ordered_step, levels}
use Rattle.qe_value.specs.Measures.{all_true, greatest}
use Rattle.qe_bson.specs.JsonWriting.{all_of, array_data, object_data, members_from, json_of, json_field}
use Rattle.qe_bson.proofs.JsonAgainLemmas.{Known, bare, items_again, AllBelow, none_below, AllBelow-put, fields_at-put}
use Rattle.qe_json_forms.proofs.FormLemmas.{both}
use Rattle.qe_bson.proofs.JsonReadLemmas.{gave}

abbrev named : List (List ℕ × Known) → List (List ℕ)
named [] = []
named (f ∷ fs) = f.0 ∷ named fs

fields_again : (fs : List (List ℕ × Known)) (before ms : Members) (room : ℕ) (front : List (List ℕ × Plain)) → members_from before (map json_field (map bare fs)) ≡ Ok ms → fields_at room before ≡ Ok front → AllBelow before (named fs) → rising (named fs) ≡ true
    → all_true (map (λ f. typed f.1) (map bare fs)) ≡ true → all_true (map (λ f. ordered f.1) (map bare fs)) ≡ true → greatest (map (λ f. levels f.1) (map bare fs)) ≤ room → fields_at room ms ≡ Ok (front ++ map bare fs)
fields_again [] before ms room front e read below rises t o le =
    let same : before ≡ ms = cc in subst (λ m. fields_at room m ≡ Ok (front ++ [])) same (read ∙ ap Ok (sym (append-nil front)))
fields_again (f ∷ fs) before ms room front e read below rises t o le =
    let others = map bare fs in
    let one = gave (λ (d : Data). members_from (put f.0 d before) (map json_field others)) (json_of f.1.0) ms e in
    let types = both (typed f.1.0) (all_true (map (λ (g : List ℕ × Plain). typed g.1) others)) t in
    let orders = both (ordered f.1.0) (all_true (map (λ (g : List ℕ × Plain). ordered g.1) others)) o in
    let rise = both (list_all (λ later. is_lt (slice_cmp nat_cmp f.0 later)) (named fs)) (rising (named fs)) rises in
    let value = f.1.1 room one.value one.found types.0 orders.0 (omega arith) in
    let wider = fields_at-put before room f.0 one.value f.1.0 front below.0 read value in
    let above = AllBelow-put (named fs) before f.0 one.value below.1 below.0 rise.0 in
    fields_again fs (put f.0 one.value before) ms room (front ++ (f.0, f.1.0) ∷ []) one.then_is wider above rise.1 types.1 orders.1 (omega arith) ∙ ap Ok (append_assoc front ((f.0, f.1.0) ∷ []) others)

nothing : {A : Type 0} (o : Option A) → is_some o ≡ false → o ≡ None
nothing None e = refl
nothing (Some x) e = cc

-- an object that is read with fields like no form is none
no_form : (ms : Members) (room : ℕ) (fs : List (List ℕ × Plain)) → fields_at room ms ≡ Ok fs → like_a_form (map (λ f. f.0) fs) ≡ false → form_of ms ≡ None
unfolding fields_at
no_form no_members room fs e like = refl
no_form (member name d no_members) room fs e like =
    let one = gave (λ (v : Plain). Ok ((name, v) ∷ [])) (value_at room d) fs e in
    let all : (name, one.value) ∷ [] ≡ fs = let h = one.then_is in cc in
    let none : is_some (form_named name) ≡ false = subst (λ l. like_a_form (map (λ (f : List ℕ × Plain). f.0) l) ≡ false) (sym all) like in
    rw (nothing (form_named name) none) refl
no_form (member name d (member other e ms)) room fs is like = refl

not_true : (b : Bool) → not b ≡ true → b ≡ false
not_true true e = cc
not_true false e = refl

abbrev second : {A : Type 0} → (Plain → A) → List ℕ × Plain → List ℕ × A
second g f = (f.0, g f.1)

seconds : {A : Type 0} (g : Plain → A) (fs : List (List ℕ × Plain)) → map (λ f. f.1) (map (second g) fs) ≡ map (λ f. g f.1) fs
seconds g [] = refl
seconds g (f ∷ fs) = ap (λ l. g f.1 ∷ l) (seconds g fs)

firsts : {A : Type 0} (g : Plain → A) (fs : List (List ℕ × Known)) → map (λ f. f.0) (map (second g) (map bare fs)) ≡ named fs
firsts g [] = refl
firsts g (f ∷ fs) = ap (λ l. f.0 ∷ l) (firsts g fs)

names_bare : (fs : List (List ℕ × Known)) → map (λ f. f.0) (map bare fs) ≡ named fs
names_bare [] = refl
names_bare (f ∷ fs) = ap (λ l. f.0 ∷ l) (names_bare fs)

pub doc_again : (fs : List (List ℕ × Known)) (room : ℕ) (d : Data) → then object_data (members_from no_members (map json_field (map bare fs))) ≡ Ok d → all_true (map (λ f. f.1) (map (second typed) (map bare fs))) ≡ true
    → ordered_step (Plain-F.Doc (map (second ordered) (map bare fs))) ≡ true → suc (greatest (map (λ f. f.1) (map (second levels) (map bare fs)))) ≤ room → value_at room d ≡ Ok (p.Doc (map bare fs))
unfolding value_at
doc_again fs zero d e t o le = absurd (omega arith)
doc_again fs (suc room) d e t o le =
    let one = gave object_data (members_from no_members (map json_field (map bare fs))) d e in
    let all : object one.value ≡ d = let h = one.then_is in cc in
    let names = firsts ordered fs in
    let parts = both (rising (map (λ f. f.0) (map (second ordered) (map bare fs)))) _ o in
    let others = both (not (like_a_form (map (λ f. f.0) (map (second ordered) (map bare fs))))) _ parts.1 in
    let rises : rising (named fs) ≡ true = subst (λ l. rising l ≡ true) names parts.0 in
    let like : like_a_form (map (λ f. f.0) (map bare fs)) ≡ false = ap like_a_form (names_bare fs ∙ sym names) ∙ not_true _ others.0 in
    let types = subst (λ l. all_true l ≡ true) (seconds typed (map bare fs)) t in
    let orders = subst (λ l. all_true l ≡ true) (seconds ordered (map bare fs)) others.1 in
    let deep : greatest (map (λ f. levels f.1) (map bare fs)) ≤ room = subst (λ l. greatest l ≤ room) (seconds levels (map bare fs)) (omega arith) in
    let read : fields_at room one.value ≡ Ok (map bare fs) = fields_again fs no_members one.value room [] one.found refl (none_below (named fs)) rises types orders deep in
    let none = no_form one.value room (map bare fs) read like in
    subst (λ x. value_at (suc room) x ≡ Ok (p.Doc (map bare fs))) all (ap (λ f. form_or room f (in_document (fields_at room one.value))) none ∙ ap in_document read)

pub array_again : (vs : List Known) (room : ℕ) (d : Data) → then array_data (all_of (map json_of (map (λ k. k.0) vs))) ≡ Ok d → all_true (map typed (map (λ k. k.0) vs)) ≡ true → all_true (map ordered (map (λ k. k.0) vs)) ≡ true
    → suc (greatest (map levels (map (λ k. k.0) vs))) ≤ room → value_at room d ≡ Ok (p.Array (map (λ k. k.0) vs))
unfolding value_at
array_again vs zero d e t o le = absurd (omega arith)
array_again vs (suc room) d e t o le =
    let one = gave array_data (all_of (map json_of (map (λ (k : Known). k.0) vs))) d e in
    let all = let made : array (items_of one.value) ≡ d = let h = one.then_is in cc in made in
    subst (λ x. value_at (suc room) x ≡ Ok (p.Array (map (λ k. k.0) vs))) all (ap in_array (items_again vs room one.value one.found t o (omega arith)))
